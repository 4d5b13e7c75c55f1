use mathlib.Core.Path.{◌≡◌}
use mathlib.Core.Bool.{true}
use Rattle.rowset.specs.Iterating.{Passing}
use Rattle.rowset.specs.Visits.{Remains}
use Rattle.rowset.specs.Member.{rows_of}
use Rattle.definition.specs.Rows.{all, is_set}
use Rattle.follower.specs.Legal.{fits_row}
use Rattle.definition.specs.Tables.{row_count, chart_of}
use Rattle.legality.proofs.is_legal.Given as goal

abbrev pub invariant-loop-r : goal.invariant-loop-r
invariant-loop-r l = Passing (λ k. (is_set (row_count l.chart) (rows_of l.conf) ≡ true) × Remains (all (fits_row (chart_of l.chart) (rows_of l.conf))) l.conf k) l.conf l.r-iterator
