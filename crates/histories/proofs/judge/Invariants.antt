use mathlib.Core.Path.{◌≡◌}
use mathlib.Core.Bool.{true}
use Rattle.definition.specs.Rows.{all, from}
use Rattle.definition.specs.Tables.{row_count, chart_of}
use Rattle.histories.specs.Places.{is_good}
use Rattle.histories.specs.Turns.{Judging}
use Rattle.histories.proofs.judge.Given as goal

abbrev pub invariant-loop-i : goal.invariant-loop-i
invariant-loop-i l = (all (is_good (chart_of l.chart) l.history) (from (row_count l.chart) 0) ≡ true) × Judging l.chart l.history l.marks l.i
