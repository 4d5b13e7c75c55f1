use native.Mathlib.Omega.{arith}
use Rattle.matching.specs.Sources.{before_past, before_by}
use Rattle.matching.proofs.starts_before.Goals as goal

pub returns-then-t-transition_count : goal.returns-then-t-transition_count
returns-then-t-transition_count c = before_by _ _ _ _ _ (let e = c.transition_count.ensures in let l = c.if-t-transition_count.true in omega arith) c.source_of.ensures.is c.row_index.ensures

pub returns : goal.returns
returns c = before_past _ _ _ (let e = c.transition_count.ensures in let l = c.if-t-transition_count.false in omega arith)
