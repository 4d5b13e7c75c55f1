use native.Mathlib.Omega.{arith}
use Rattle.definition.specs.Chart.{is_history}
use Rattle.laws.specs.Loops.{told}
use Rattle.compiler.specs.Judging.{child_past, child_history, child_is}
use Rattle.compiler.proofs.judging.is_child_row.Goals as goal

pub returns-then-row_count-x : goal.returns-then-row_count-x
returns-then-row_count-x c = let e = c.row_count.ensures in child_past _ _ _ (omega arith)

pub returns-then-is_history : goal.returns-then-is_history
returns-then-is_history c = let e = c.row_count.ensures in child_history _ _ _ (omega arith) (told is_history _ _ _ _ c.kind_of.ensures c.is_history.ensures c.if-is_history.true)

pub returns : goal.returns
returns c =
    let e = c.row_count.ensures in
    child_is _ _ _ (omega arith) (told is_history _ _ _ _ c.kind_of.ensures c.is_history.ensures c.if-is_history.false) _ c.parent_of-q.ensures
