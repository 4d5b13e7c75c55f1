use Prim.Native.Nat.{◌-◌}
use Rattle.definition.specs.Tables.{chart_of}
use Rattle.follower.specs.Selection.{initial_targets}
use Rattle.follower.specs.Microstep.{stored}
use Rattle.paths.specs.History.{stored_at}
use Rattle.rowset.specs.Member.{rows_of}
use Rattle.microstep.specs.Entry.{Completing}
use Rattle.microstep.proofs.entry.entry_set.Given as goal

abbrev pub invariant-loop-r : goal.invariant-loop-r
invariant-loop-r l = Completing (chart_of l.round.chart.now) (initial_targets (chart_of l.round.chart.now) (stored (chart_of l.round.chart.now) (rows_of l.round.conf) (stored_at l.round.history.now) (rows_of l.round.out))) (rows_of l.initial.e.set) l.e l.k

abbrev pub decreases-loop-r : goal.decreases-loop-r
decreases-loop-r l = 256 - l.k
