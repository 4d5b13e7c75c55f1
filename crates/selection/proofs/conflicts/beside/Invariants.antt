use Rattle.definition.specs.Tables.{chart_of}
use Rattle.follower.specs.Selection.{keep_beside}
use Rattle.rowset.specs.Member.{rows_of}
use Rattle.paths.specs.History.{stored_at}
use Rattle.selection.specs.Kept.{Sifted}
use Rattle.selection.proofs.conflicts.beside.Given as goal

abbrev pub invariant-loop-i : goal.invariant-loop-i
invariant-loop-i l = Sifted (chart_of l.chart) (rows_of l.conf) (stored_at l.history) (keep_beside (chart_of l.chart) (rows_of l.conf) (stored_at l.history) l.t.0) l.initial.items l.n l.items l.rest l.i
