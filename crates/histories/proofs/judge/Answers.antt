use mathlib.Core.Path.{sym, ◌∙◌}
use Prim.Native.Nat.{◌-◌}
use native.Mathlib.Omega.{arith}
use Rattle.histories.specs.Places.{bad_places}
use Rattle.histories.specs.Turns.{judge_begin, judge_stop, judge_turn, judge_end}
use Rattle.histories.proofs.judge.Goals as goal

pub mark_all-requires : goal.mark_all-requires
mark_all-requires c = c.requires

pub shape_of-marks-then-not-mark_all : goal.shape_of-marks-then-not-mark_all
shape_of-marks-then-not-mark_all c = c.mark_all.ensures.size ∙ sym c.requires.2.size

pub returns-then-not-mark_all : goal.returns-then-not-mark_all
returns-then-not-mark_all c = bad_places _ _ (sym c.if-not-mark_all.true ∙ c.mark_all.ensures.told)

pub loop-i-init : goal.loop-i-init
loop-i-init c = let few = c.requires.0.tables.sized.counts.rows in let p = c.mark_all.ensures.done c.if-not-mark_all.false in (p.good, rw c.row_count-n.ensures (judge_begin _ _ c.requires.0.sound (omega arith) _ p))

pub judge_row-requires : goal.judge_row-requires
judge_row-requires c = let m = c.loop-i.invariant.1.most in (record { ready = c.requires.0; inside = omega arith }, c.loop-i.invariant.1.size)

pub shape_of-marks-then-not-judge_row : goal.shape_of-marks-then-not-judge_row
shape_of-marks-then-not-judge_row c = c.judge_row.ensures.size ∙ sym c.requires.2.size

pub returns-then-not-judge_row : goal.returns-then-not-judge_row
returns-then-not-judge_row c = let few = c.requires.0.tables.sized.counts.rows in judge_stop _ _ c.requires.0.sound (omega arith) c.loop-i.invariant.0 _ _ c.loop-i.i (c.loop-i.i - 1) _ (omega arith) c.loop-i.invariant.1 c.judge_row.ensures c.if-not-judge_row.true

pub loop-i-preserved : goal.loop-i-preserved
loop-i-preserved c = let few = c.requires.0.tables.sized.counts.rows in (c.loop-i.invariant.0, judge_turn _ _ c.requires.0.sound (omega arith) c.loop-i.invariant.0 _ _ c.loop-i.i (c.loop-i.i - 1) _ (omega arith) c.loop-i.invariant.1 c.judge_row.ensures c.if-not-judge_row.false)

pub shape_of-marks : goal.shape_of-marks
shape_of-marks c = c.loop-i.invariant.1.size ∙ sym c.requires.2.size

pub returns : goal.returns
returns c = let few = c.requires.0.tables.sized.counts.rows in judge_end _ _ c.requires.0.sound (omega arith) c.loop-i.invariant.0 _ c.loop-i.i c.loop-i.invariant.1 (omega arith)
