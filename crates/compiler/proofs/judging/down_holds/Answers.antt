use Rattle.compiler.specs.Judging.{down_none, down_some}
use Rattle.compiler.proofs.judging.down_holds.Goals as goal

pub returns-then-is_empty : goal.returns-then-is_empty
returns-then-is_empty c = down_none _ _ _ _ _ _ c.set_at-own.ensures c.set_at-set.ensures _ _ c.is_empty.ensures c.if-is_empty.true c.is_empty-then-is_empty.ensures

pub returns : goal.returns
returns c = down_some _ _ _ _ _ _ c.set_at-own.ensures c.set_at-set.ensures _ c.are_own.ensures
