use mathlib.Core.Path.{refl}
use Rattle.rowset.specs.Visits.{visit_begin, visit_turn, visit_end, found_next}
use Rattle.rowset.specs.Iterating.{passing, gives, on}
use Rattle.microstep.specs.Initial.{with_initial_pass}
use Rattle.microstep.proofs.initial.with_initial.Goals as goal

pub loop-r-init : goal.loop-r-init
loop-r-init c = passing _ _ _ _ c.into_iter-r-iterator.ensures.into_iter_gives c.iter-r-items.ensures.set c.iter-r-items.ensures.at (visit_begin _ _ _ _ refl)

pub add_fallen_initial-set-requires : goal.add_fallen_initial-set-requires
add_fallen_initial-set-requires c = (c.requires.0, c.requires.1.at _ (found_next _ _ _ (gives c.loop-r.invariant c.next.ensures.steps) _ c.in-Some.is).here)

pub loop-r-preserved : goal.loop-r-preserved
loop-r-preserved c = on c.loop-r.invariant c.next.ensures.steps _ c.in-Some.is (visit_turn _ _ _ _ _ _ _ _ c.loop-r.invariant.holds (gives c.loop-r.invariant c.next.ensures.steps) c.in-Some.is c.add_fallen_initial-set.ensures)

pub returns : goal.returns
returns c = with_initial_pass _ _ _ _ _ (visit_end _ _ _ _ _ _ c.loop-r.invariant.holds (gives c.loop-r.invariant c.next.ensures.steps) c.in-None.is)
