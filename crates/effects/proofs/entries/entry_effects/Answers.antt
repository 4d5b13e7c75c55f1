use Rattle.follower.specs.Microstep.{entering}
use Rattle.rowset.specs.Iterating.{passing, gives, on}
use Rattle.rowset.specs.Visits.{found_next, rest_at, rest_end}
use Rattle.effects.specs.Entering.{row_room, done_room, row_wrote}
use Rattle.effects.specs.Emitting.{emitting_room, emitting_turn, emitting_end, emitting_length, emitting_joins, emitting_up}
use Rattle.effects.proofs.entries.entry_effects.Goals as goal

pub loop-r-init : goal.loop-r-init
unfolding entering
loop-r-init c = passing _ _ _ _ c.into_iter-r-iterator.ensures.into_iter_gives c.iter-r-items.ensures.set c.iter-r-items.ensures.at (emitting_up _ _ _ _ c.requires.3)

pub enter_row-sum-requires : goal.enter_row-sum-requires
enter_row-sum-requires c = (record { ready = c.requires.0; inside = c.requires.1.at _ (found_next _ _ _ (gives c.loop-r.invariant c.next.ensures.steps) _ c.in-Some.is).here }, c.requires.2, row_room _ _ _ _ _ _ (emitting_room _ _ _ _ _ _ _ _ _ (rest_at _ _ _ (gives c.loop-r.invariant c.next.ensures.steps) _ c.in-Some.is) c.loop-r.invariant.holds))

pub done_effects-sum-requires : goal.done_effects-sum-requires
done_effects-sum-requires c = (record { ready = c.requires.0; inside = c.requires.1.at _ (found_next _ _ _ (gives c.loop-r.invariant c.next.ensures.steps) _ c.in-Some.is).here }, done_room _ _ _ _ _ _ (emitting_room _ _ _ _ _ _ _ _ _ (rest_at _ _ _ (gives c.loop-r.invariant c.next.ensures.steps) _ c.in-Some.is) c.loop-r.invariant.holds) _ _ _ c.enter_row-sum.ensures)

pub loop-r-preserved : goal.loop-r-preserved
loop-r-preserved c = on c.loop-r.invariant c.next.ensures.steps _ c.in-Some.is (emitting_turn _ _ _ _ _ _ _ _ _ _ _ (rest_at _ _ _ (gives c.loop-r.invariant c.next.ensures.steps) _ c.in-Some.is) c.loop-r.invariant.holds (row_wrote _ _ _ _ _ _ (emitting_room _ _ _ _ _ _ _ _ _ (rest_at _ _ _ (gives c.loop-r.invariant c.next.ensures.steps) _ c.in-Some.is) c.loop-r.invariant.holds) _ _ _ c.enter_row-sum.ensures _ _ c.done_effects-sum.ensures))

pub shape_of-trace : goal.shape_of-trace
shape_of-trace c = emitting_length _ _ _ _ _ _ _ c.loop-r.invariant.holds

pub shape_of-joins : goal.shape_of-joins
shape_of-joins c = emitting_joins _ _ _ _ _ _ _ c.loop-r.invariant.holds

pub returns : goal.returns
unfolding entering
returns c = emitting_end _ _ _ _ _ _ _ (rest_end _ _ _ (gives c.loop-r.invariant c.next.ensures.steps) c.in-None.is) c.loop-r.invariant.holds
