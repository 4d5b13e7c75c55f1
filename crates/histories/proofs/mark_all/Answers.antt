use mathlib.Core.Path.{sym, ap, ◌∙◌}
use native.Mathlib.Omega.{arith}
use Rattle.histories.specs.Places.{put_begin, put_turn}
use Rattle.histories.specs.Places.{put_stop, put_end}
use mathlib.Core.Bool.{not}
use Rattle.histories.proofs.mark_all.Goals as goal

pub loop-i-init : goal.loop-i-init
loop-i-init c = (omega arith, put_begin _ _ _ c.requires.2)

pub mark_place-requires : goal.mark_place-requires
mark_place-requires c = let e = c.row_count-n.ensures in (record { ready = c.requires.0; inside = omega arith }, c.requires.1, c.atomic_rows-leaves.ensures, c.loop-i.invariant.1.size)

pub shape_of-marks-then-not-mark_place : goal.shape_of-marks-then-not-mark_place
shape_of-marks-then-not-mark_place c = c.mark_place.ensures.size ∙ sym c.requires.2.size

pub returns-then-not-mark_place : goal.returns-then-not-mark_place
returns-then-not-mark_place c = put_stop _ _ _ _ c.loop-i.i _ c.mark_place.ensures (ap not c.if-not-mark_place.true) (let e = c.row_count-n.ensures in omega arith)

pub loop-i-preserved : goal.loop-i-preserved
loop-i-preserved c = (omega arith, put_turn _ _ _ _ c.loop-i.i _ c.loop-i.invariant.1 c.mark_place.ensures c.if-not-mark_place.false)

pub shape_of-marks : goal.shape_of-marks
shape_of-marks c = c.loop-i.invariant.1.size ∙ sym c.requires.2.size

pub returns : goal.returns
returns c = let e = c.row_count-n.ensures in put_end _ _ _ c.loop-i.i c.loop-i.invariant.1 (omega arith) (omega arith)
