use mathlib.Core.Path.{refl}
use Rattle.rowset.specs.Visits.{visit_begin, visit_turn, visit_end, found_next}
use Rattle.rowset.specs.Iterating.{passing, gives, on}
use Rattle.microstep.specs.Stored.{stand_in}
use Rattle.microstep.specs.Initial.{resolved_pass}
use Rattle.microstep.proofs.initial.resolve.Goals as goal

pub loop-x-init : goal.loop-x-init
loop-x-init c = passing _ _ _ _ c.into_iter-x-iterator.ensures.into_iter_gives c.iter-x-items.ensures.set c.iter-x-items.ensures.at (visit_begin _ _ _ _ c.empty-set.ensures)

pub stored_after-kept-requires : goal.stored_after-kept-requires
stored_after-kept-requires c = (c.requires.0, c.requires.1.at _ (found_next _ _ _ (gives c.loop-x.invariant c.next.ensures.steps) _ c.in-Some.is).here)

pub add_stand_ins-set-requires : goal.add_stand_ins-set-requires
add_stand_ins-set-requires c = record { ready = c.requires.0.store.ready; inside = c.requires.1.at _ (found_next _ _ _ (gives c.loop-x.invariant c.next.ensures.steps) _ c.in-Some.is).here }

pub loop-x-preserved : goal.loop-x-preserved
loop-x-preserved c = on c.loop-x.invariant c.next.ensures.steps _ c.in-Some.is (visit_turn _ _ _ _ _ _ _ _ c.loop-x.invariant.holds (gives c.loop-x.invariant c.next.ensures.steps) c.in-Some.is (stand_in _ _ c.stored_after-kept.ensures _ _ _ _ _ _ refl c.add_stand_ins-set.ensures refl))

pub returns : goal.returns
returns c = resolved_pass _ _ _ _ (visit_end _ _ _ _ _ _ c.loop-x.invariant.holds (gives c.loop-x.invariant c.next.ensures.steps) c.in-None.is)
