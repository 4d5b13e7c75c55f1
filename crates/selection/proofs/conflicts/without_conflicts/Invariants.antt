use Rattle.definition.specs.Tables.{chart_of}
use Rattle.follower.specs.Selection.{admit}
use Rattle.rowset.specs.Member.{rows_of}
use Rattle.paths.specs.History.{stored_at}
use Rattle.selection.specs.Kept.{Sifted}
use Rattle.selection.proofs.conflicts.without_conflicts.Given as goal

abbrev pub invariant-loop-i : goal.invariant-loop-i
invariant-loop-i l = Sifted (chart_of l.chart) (rows_of l.conf) (stored_at l.history) (admit (chart_of l.chart) (rows_of l.conf) (stored_at l.history)) l.initial.items l.n l.items l.kept l.i
