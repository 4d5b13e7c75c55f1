use mathlib.Core.Path.{refl}
use Rattle.follower.specs.Microstep.{exiting}
use Rattle.rowset.specs.Iterating.{gives_down, on_down}
use Rattle.rowset.specs.Visits.{found_prev, rest_before, rest_bottom}
use Rattle.effects.specs.Emitting.{emitting_room, emitting_turn, emitting_end, emitting_length, emitting_joins, emitting_down}
use Rattle.effects.proofs.exits.exit_effects.Goals as goal

pub loop-r-init : goal.loop-r-init
unfolding exiting
loop-r-init c = rw c.into_iter-r-iterator.ensures.into_iter_gives record { set = refl; holds = emitting_down _ _ _ _ _ _ c.requires.1 c.row_count.ensures c.requires.2 }

pub exit_row-sum-requires : goal.exit_row-sum-requires
exit_row-sum-requires c = let o = found_prev _ _ _ (gives_down c.loop-r.invariant c.next.ensures.steps) _ c.in-Some.is in (record { tables = c.requires.0; below = c.requires.1.at _ o.here }, emitting_room _ _ _ _ _ _ _ _ _ (rest_before _ _ _ (gives_down c.loop-r.invariant c.next.ensures.steps) _ c.in-Some.is) c.loop-r.invariant.holds)

pub loop-r-preserved : goal.loop-r-preserved
loop-r-preserved c = on_down c.loop-r.invariant c.next.ensures.steps _ c.in-Some.is (emitting_turn _ _ _ _ _ _ _ _ _ _ _ (rest_before _ _ _ (gives_down c.loop-r.invariant c.next.ensures.steps) _ c.in-Some.is) c.loop-r.invariant.holds c.exit_row-sum.ensures)

pub shape_of-trace : goal.shape_of-trace
shape_of-trace c = emitting_length _ _ _ _ _ _ _ c.loop-r.invariant.holds

pub shape_of-joins : goal.shape_of-joins
shape_of-joins c = emitting_joins _ _ _ _ _ _ _ c.loop-r.invariant.holds

pub returns : goal.returns
unfolding exiting
returns c = emitting_end _ _ _ _ _ _ _ (rest_bottom _ _ _ (gives_down c.loop-r.invariant c.next.ensures.steps) c.in-None.is) c.loop-r.invariant.holds
