use borrow.Author.Rules.{rules}
use mathlib.Core.Path.{sym}
use native.Mathlib.Omega.{arith}
use Rattle.matching.specs.Chosen.{list_of, list_length}
use Rattle.rounds.specs.Taking.{choosers_part, choosers_size, lent_taken}
use Rattle.rounds.proofs.taking.step_effects.Goals as goal

pub slice_bounds-chosen-end : goal.slice_bounds-chosen-end
unfolding list_of
slice_bounds-chosen-end c = sym (list_length _ _ (let r = c.requires.1.room in let m = c.requires.1.most in omega arith))

pub slice_bounds-by-end : goal.slice_bounds-by-end
slice_bounds-by-end c = let e = c.requires.1.room in search rules

pub plan_effects-requires : goal.plan_effects-requires
unfolding list_of
plan_effects-requires c = (c.requires.0, lent_taken _ _ _ c.requires.1, choosers_size c.args.items.now c.requires.1.room, search rules)

pub returns : goal.returns
unfolding list_of
returns c = rw (choosers_part c.args.items.now c.requires.1.room) at c.plan_effects.ensures
