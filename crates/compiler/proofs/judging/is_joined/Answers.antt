use native.Mathlib.Omega.{arith}
use Rattle.definition.specs.Chart.{is_history}
use Rattle.laws.specs.Loops.{told}
use Rattle.compiler.specs.Compilable.{has_parent}
use Rattle.compiler.specs.Judging.{joined_root, joined_history, joined_has}
use Rattle.compiler.proofs.judging.is_joined.Goals as goal

pub returns-then-i-eq0 : goal.returns-then-i-eq0
returns-then-i-eq0 c = joined_root _ _ _ c.if-i-eq0.true

pub returns-then-is_history : goal.returns-then-is_history
returns-then-is_history c = joined_history _ _ _ c.if-i-eq0.false (told is_history _ _ _ _ c.kind_of.ensures c.is_history.ensures c.if-is_history.true)

pub parent_row-p-requires : goal.parent_row-p-requires
parent_row-p-requires c = has_parent _ c.requires.0.numbers_keep _ (omega arith) (omega arith)

pub returns : goal.returns
returns c =
    joined_has _ _ _ c.if-i-eq0.false (told is_history _ _ _ _ c.kind_of.ensures c.is_history.ensures c.if-is_history.false) _ c.parent_row-p.ensures.is _ c.set_at.ensures _ c.has.ensures
