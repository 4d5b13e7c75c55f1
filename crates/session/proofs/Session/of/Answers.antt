use borrow.Author.Rules.{rules}
use mathlib.Core.Path.{◌∙◌}
use lib.ListN.{replicate}
use Rattle.places.specs.Copies.{copy_whole}
use Rattle.state.specs.State.{history_in}
use Rattle.session.specs.Calling.{session_made}
use Rattle.session.proofs.Session.of.Goals as goal

pub returns : goal.returns
returns c = session_made c.args.numbers _ _ _ (c.copy.ensures ∙ copy_whole (history_in c.args.numbers) (replicate 1024 0) (search rules)) (search rules)
