use mathlib.Core.Path.{sym, ◌∙◌}
use Rattle.rowset.specs.Iterating.{passing, gives, on}
use Rattle.histories.specs.Marks.{mark_begin, mark_room, mark_turn, mark_end}
use Rattle.histories.proofs.mark.Goals as goal

pub loop-r-init : goal.loop-r-init
loop-r-init c = passing _ _ _ _ c.into_iter-r-iterator.ensures.into_iter_gives c.iter-r-items.ensures.set c.iter-r-items.ensures.at ((c.requires, mark_begin _ _ _ c.requires))

pub shape_of-marks : goal.shape_of-marks
shape_of-marks c = c.loop-r.invariant.holds.1.size ∙ sym c.loop-r.invariant.holds.0

pub returns : goal.returns
returns c = mark_end _ _ _ _ _ c.loop-r.invariant.holds.1 _ (gives c.loop-r.invariant c.next.ensures.steps) c.in-None.is

pub set_at-requires : goal.set_at-requires
set_at-requires c = record { inside = rw c.from-at.ensures (mark_room _ _ _ _ _ c.loop-r.invariant.holds.1 _ (gives c.loop-r.invariant c.next.ensures.steps) _ c.in-Some.is) }

pub put_set-requires : goal.put_set-requires
put_set-requires c = rw c.from-at.ensures (mark_room _ _ _ _ _ c.loop-r.invariant.holds.1 _ (gives c.loop-r.invariant c.next.ensures.steps) _ c.in-Some.is)

pub loop-r-preserved : goal.loop-r-preserved
loop-r-preserved c = on c.loop-r.invariant c.next.ensures.steps _ c.in-Some.is ((c.loop-r.invariant.holds.0, mark_turn _ _ _ _ _ c.loop-r.invariant.holds.1 _ (gives c.loop-r.invariant c.next.ensures.steps) _ _ _ _ c.in-Some.is (rw c.from-at.ensures at c.set_at.ensures) c.with.ensures (rw c.from-at.ensures at c.put_set.ensures)))
