use borrow.Author.Rules.{rules}
use mathlib.Core.Path.{refl, sym}
use native.Mathlib.Omega.{arith}
use Rattle.matching.specs.Chosen.{list_of, list_length}
use Rattle.state.specs.Numbers.{set_inside}
use Rattle.rounds.specs.Deciding.{chosen_fit}
use Rattle.rounds.proofs.taking.plan_step.Goals as goal

pub set_at-conf-requires : goal.set_at-conf-requires
set_at-conf-requires c = set_inside _ c.requires.1

pub slice_bounds-domains-end : goal.slice_bounds-domains-end
slice_bounds-domains-end c = let e = c.requires.0.size in search rules

pub slice_bounds-stored-end : goal.slice_bounds-stored-end
slice_bounds-stored-end c = let e = c.requires.1 in search rules

pub slice_bounds-chosen-end : goal.slice_bounds-chosen-end
unfolding list_of
slice_bounds-chosen-end c = sym (list_length _ _ (let r = c.requires.3.fits.room in let m = c.requires.3.fits.most in omega arith))

pub plan_round-requires : goal.plan_round-requires
unfolding list_of
plan_round-requires c = rw (c.rows_at-atomic.ensures, c.rows_at-histories.ensures, c.set_at-conf.ensures) (c.requires.0.domains, c.requires.2, c.requires.0.histories, chosen_fit _ _ _ _ _ c.requires.3, c.requires.3.exits)

pub returns : goal.returns
unfolding list_of
returns c = let p = rw c.set_at-conf.ensures at c.plan_round.ensures in (refl, refl, p.0, p.1)
