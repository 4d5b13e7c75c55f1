use native.Mathlib.Omega.{arith}
use Rattle.laws.specs.Loops.{told}
use Rattle.definition.specs.Chart.{is_parallel}
use Rattle.histories.specs.Turns.{judge_bare, judge_parallel, judge_plain}
use Rattle.histories.proofs.judge_row.Goals as goal

pub returns-then-is_empty : goal.returns-then-is_empty
returns-then-is_empty c = judge_bare _ _ _ c.requires.1 _ c.children_of-kids.ensures _ c.is_empty.ensures c.if-is_empty.true

pub kind_of-requires : goal.kind_of-requires
kind_of-requires c = record { tables = c.requires.0.ready.tables; below = c.requires.0.inside }

pub returns-then-is_parallel : goal.returns-then-is_parallel
returns-then-is_parallel c = let m = c.requires.0.inside in let few = c.requires.0.ready.tables.sized.counts.rows in judge_parallel _ _ _ c.requires.1 _ c.children_of-kids.ensures _ c.is_empty.ensures c.if-is_empty.false _ _ _ _ _ _ (omega arith) c.common_of-shared.ensures c.set_at-own.ensures c.minus.ensures c.put_set.ensures _ (told is_parallel _ _ _ _ c.kind_of.ensures c.is_parallel.ensures c.if-is_parallel.true) c.subset.ensures

pub returns : goal.returns
returns c = let m = c.requires.0.inside in let few = c.requires.0.ready.tables.sized.counts.rows in judge_plain _ _ _ c.requires.1 _ c.children_of-kids.ensures _ c.is_empty.ensures c.if-is_empty.false _ _ _ _ _ _ (omega arith) c.common_of-shared.ensures c.set_at-own.ensures c.minus.ensures c.put_set.ensures _ (told is_parallel _ _ _ _ c.kind_of.ensures c.is_parallel.ensures c.if-is_parallel.false) c.is_empty-2.ensures
