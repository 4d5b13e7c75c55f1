use mathlib.Core.Path.{refl}
use Rattle.rowset.specs.Visits.{visit_begin, visit_turn, visit_end, found_next}
use Rattle.rowset.specs.Iterating.{passing, gives, on}
use Rattle.microstep.specs.Initial.{first_one, first_added, first_pass}
use Rattle.microstep.proofs.initial.first_fallen.Goals as goal

pub listed_histories-set-requires : goal.listed_histories-set-requires
listed_histories-set-requires c = record { ready = c.requires.0; inside = c.requires.0.sound.tree.some }

pub loop-r-init : goal.loop-r-init
loop-r-init c = passing _ _ _ _ c.into_iter-r-iterator.ensures.into_iter_gives c.iter-r-items.ensures.set c.iter-r-items.ensures.at (visit_begin _ _ _ _ refl)

pub listed_histories-requires : goal.listed_histories-requires
listed_histories-requires c = record { ready = c.requires.0; inside = c.requires.1.at _ (found_next _ _ _ (gives c.loop-r.invariant c.next.ensures.steps) _ c.in-Some.is).here }

pub loop-r-preserved : goal.loop-r-preserved
loop-r-preserved c = on c.loop-r.invariant c.next.ensures.steps _ c.in-Some.is (visit_turn _ _ _ _ _ _ _ _ c.loop-r.invariant.holds (gives c.loop-r.invariant c.next.ensures.steps) c.in-Some.is (first_added _ _ _ _ _ c.listed_histories.ensures c.union-set.ensures))

pub returns : goal.returns
returns c = first_pass _ _ _ _ (first_one _ _ _ c.listed_histories-set.ensures) (visit_end _ _ _ _ _ _ c.loop-r.invariant.holds (gives c.loop-r.invariant c.next.ensures.steps) c.in-None.is)
