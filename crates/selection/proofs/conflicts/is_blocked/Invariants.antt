use lib.ListN.{length}
use Rattle.definition.specs.Tables.{chart_of}
use Rattle.follower.specs.Selection.{is_in_the_way}
use Rattle.laws.specs.Loops.{Failing}
use Rattle.rowset.specs.Member.{rows_of}
use Rattle.paths.specs.History.{stored_at}
use Rattle.selection.proofs.conflicts.is_blocked.Given as goal

abbrev pub invariant-loop-i : goal.invariant-loop-i
invariant-loop-i l = Failing (is_in_the_way (chart_of l.chart) (rows_of l.conf) (stored_at l.history) l.t.0) l.kept (length l.kept) l.i
