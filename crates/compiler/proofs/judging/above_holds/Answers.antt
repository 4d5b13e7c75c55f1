use native.Mathlib.Omega.{arith}
use Rattle.compiler.specs.Judging.{above_none, above_same, tree_has_parent}
use Rattle.compiler.proofs.judging.above_holds.Goals as goal

pub returns-then-i-eq0 : goal.returns-then-i-eq0
returns-then-i-eq0 c = above_none _ _ _ _ c.set_at-own.ensures c.if-i-eq0.true _ c.is_empty.ensures

pub parent_row-p-requires : goal.parent_row-p-requires
parent_row-p-requires c = tree_has_parent _ c.requires.0.tree _ (omega arith) (omega arith)

pub returns : goal.returns
returns c =
    above_same _ _ _ _ c.set_at-own.ensures c.if-i-eq0.false _ _ _ c.parent_row-p.ensures.is c.set_at-over.ensures c.with.ensures _ c.same.ensures
