use mathlib.Core.List.{[]}
use Rattle.std.specs.Prelude.{ℕ}
use Rattle.rowset.specs.Iterating.{Passing}
use Rattle.definition.specs.Rows.{all}
use Rattle.definition.specs.Tables.{chart_of}
use Rattle.rowset.specs.Member.{rows_of}
use Rattle.rowset.specs.Visits.{Remains, Visited}
use Rattle.compiler.specs.Compilable.{RowRoom}
use Rattle.compiler.specs.Judged.{is_child_row, with_below}
use Rattle.compiler.proofs.judging.are_own.Given as goal

abbrev pub invariant-loop-x : goal.invariant-loop-x
invariant-loop-x l = RowRoom l.numbers l.below × Passing (λ (k : ℕ). Remains (all (is_child_row (chart_of l.numbers) l.p.0)) l.fn.set k × Visited (with_below l.below) [] (rows_of l.all) l.fn.set k) l.fn.set l.x-iterator
