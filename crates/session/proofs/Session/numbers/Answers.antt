use borrow.Author.Rules.{rules}
use mathlib.Core.Path.{refl, sym, ◌∙◌}
use lib.ListN.{replicate}
use Rattle.places.specs.Copies.{copy_whole}
use Rattle.state.specs.State.{history_in}
use Rattle.state.specs.Numbers.{back_length}
use Rattle.session.specs.Calling.{numbers_put}
use Rattle.session.proofs.Session.numbers.Goals as goal

pub put_state-requires : goal.put_state-requires
put_state-requires c = back_length (replicate 1031 0) c.copy.new.place refl c.copy.auto.place

pub returns : goal.returns
returns c = numbers_put _ _ _ _ c.state-state.ensures (c.copy.ensures ∙ copy_whole c.args.self.history (history_in (replicate 1031 0)) (search rules)) c.put_state.ensures (search rules)

pub slice_bounds-put_state-end : goal.slice_bounds-put_state-end
slice_bounds-put_state-end c = sym (back_length (replicate 1031 0) c.copy.new.place refl c.copy.auto.place)
