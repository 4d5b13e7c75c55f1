use Rattle.compiler.specs.Turns.{descendants_first, descendants_next, descendants_turn, descendants_last}
use Rattle.laws.specs.Loops.{told}
use Rattle.definition.specs.Chart.{is_history}
use Rattle.compiler.specs.Compilable.{has_parent, row_in_lem, parent_low}
use Rattle.chart.specs.Writing.{length_over}
use Rattle.definition.specs.Rows.{nothing_at}
use mathlib.Core.Path.{ap, ◌∙◌}
use Prim.Native.Nat.{◌-◌}
use native.Mathlib.Omega.{arith}
use lib.ListN.{length}
use Rattle.compiler.proofs.columns.write_descendants.Goals as goal

pub loop-i-init : goal.loop-i-init
loop-i-init c =
    let k = c.requires.numbers_keep in
    let s = k.tables.sized.counts.some in
    let e = c.row_count-rows.ensures in
    (omega arith, omega arith, e, descendants_first _ k _ _ _ e c.requires.room c.clear.ensures)

pub kind_of-requires : goal.kind_of-requires
kind_of-requires c = row_in_lem _ c.requires.numbers_keep (c.loop-i.i - 1) (omega arith)

pub set_at-requires : goal.set_at-requires
set_at-requires c = record { inside = omega arith }

pub parent_row-requires : goal.parent_row-requires
parent_row-requires c = has_parent _ c.requires.numbers_keep (c.loop-i.i - 1) (omega arith) (omega arith)

pub set_at-others-requires : goal.set_at-others-requires
set_at-others-requires c =
    let e = c.parent_row.ensures.is in
    let b = parent_low _ c.requires.numbers_keep (c.loop-i.i - 1) (omega arith) in
    record { inside = omega arith }

pub put_set-requires : goal.put_set-requires
put_set-requires c =
    let l = c.loop-i in
    let t = c.loop-i-test.true in
    let m = l.invariant.1 in
    let r = l.invariant.2 in
    let s = l.invariant.3 in
    let e = c.parent_row.ensures.is in
    let b = parent_low _ c.requires.numbers_keep (l.i - 1) (omega arith) in
    omega arith

pub loop-i-preserved-then-not-is_history : goal.loop-i-preserved-then-not-is_history
loop-i-preserved-then-not-is_history c =
    let l = c.loop-i in
    let t = c.loop-i-test.true in
    let m = l.invariant.1 in
    let e = l.invariant.2 in (
      omega arith,
      omega arith,
      e,
      descendants_turn _ c.requires.numbers_keep l.i (l.i - 1) _ _ _ _ _ _ _ _ (omega arith) l.invariant.3 (omega arith) (omega arith) c.parent_row.ensures.is
          (told is_history _ _ _ _ c.kind_of.ensures c.is_history.ensures c.if-not-is_history.true)
          c.set_at.ensures c.with-own.ensures c.set_at-others.ensures c.union.ensures c.put_set.ensures,
    )

pub loop-i-preserved : goal.loop-i-preserved
loop-i-preserved c =
    let l = c.loop-i in (
      omega arith,
      omega arith,
      l.invariant.2,
      descendants_next _ c.requires.numbers_keep l.i (l.i - 1) _ _ (omega arith) l.invariant.3
          (told is_history _ _ _ _ c.kind_of.ensures c.is_history.ensures c.if-not-is_history.false),
    )

pub shape_of-sets : goal.shape_of-sets
shape_of-sets c = c.loop-i.invariant.3.size ∙ ap length c.clear.ensures ∙ length_over nothing_at _ _ (omega arith)

pub returns : goal.returns
returns c = let l = c.loop-i in descendants_last _ c.requires.numbers_keep _ l.i _ _ _ l.invariant.2 c.requires.room c.clear.ensures l.invariant.3 (omega arith)
