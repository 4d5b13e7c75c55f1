use Rattle.compiler.specs.Turns.{children_first, children_next, children_turn, children_last}
use Rattle.compiler.specs.Compilable.{has_parent, row_in_lem, parent_low}
use Rattle.chart.specs.Writing.{length_over}
use Rattle.laws.specs.Loops.{told}
use Rattle.definition.specs.Rows.{nothing_at}
use Rattle.definition.specs.Chart.{is_history}
use mathlib.Core.Path.{ap, ◌∙◌}
use native.Mathlib.Omega.{arith}
use lib.ListN.{length}
use Rattle.compiler.proofs.columns.write_children.Goals as goal

pub loop-i-init : goal.loop-i-init
loop-i-init c =
    let k = c.requires.numbers_keep in
    let s = k.tables.sized.counts.some in
    let e = c.row_count-rows.ensures in
    (omega arith, omega arith, e, children_first _ k _ _ _ e c.requires.room c.clear.ensures)

pub kind_of-requires : goal.kind_of-requires
kind_of-requires c = row_in_lem _ c.requires.numbers_keep c.loop-i.i (omega arith)

pub parent_row-requires : goal.parent_row-requires
parent_row-requires c = has_parent _ c.requires.numbers_keep c.loop-i.i (omega arith) (omega arith)

pub set_at-siblings-requires : goal.set_at-siblings-requires
set_at-siblings-requires c =
    let e = c.parent_row.ensures.is in
    let b = parent_low _ c.requires.numbers_keep c.loop-i.i (omega arith) in
    record { inside = omega arith }

pub put_set-requires : goal.put_set-requires
put_set-requires c =
    let e = c.parent_row.ensures.is in
    let b = parent_low _ c.requires.numbers_keep c.loop-i.i (omega arith) in
    omega arith

pub loop-i-preserved : goal.loop-i-preserved
loop-i-preserved c =
    let l = c.loop-i in (
      omega arith,
      omega arith,
      l.invariant.2,
      children_turn _ c.requires.numbers_keep l.i _ _ _ _ _ _ l.invariant.3 (omega arith) (omega arith) c.parent_row.ensures.is
          (told is_history _ _ _ _ c.kind_of.ensures c.is_history.ensures c.if-is_history.false)
          c.set_at-siblings.ensures c.with.ensures c.put_set.ensures,
    )

pub loop-i-preserved-then-is_history : goal.loop-i-preserved-then-is_history
loop-i-preserved-then-is_history c =
    let l = c.loop-i in (
      omega arith,
      omega arith,
      l.invariant.2,
      children_next _ c.requires.numbers_keep l.i _ _ l.invariant.3
          (told is_history _ _ _ _ c.kind_of.ensures c.is_history.ensures c.if-is_history.true),
    )

pub shape_of-sets : goal.shape_of-sets
shape_of-sets c = c.loop-i.invariant.3.size ∙ ap length c.clear.ensures ∙ length_over nothing_at _ _ (omega arith)

pub returns : goal.returns
returns c = let l = c.loop-i in children_last _ c.requires.numbers_keep _ l.i _ _ _ l.invariant.2 c.requires.room c.clear.ensures l.invariant.3 (omega arith)
