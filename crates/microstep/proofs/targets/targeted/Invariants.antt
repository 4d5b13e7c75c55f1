use mathlib.Core.List.{[]}
use Rattle.follower.specs.Microstep.{stored, add_targets}
use Rattle.definition.specs.Tables.{chart_of}
use Rattle.laws.specs.Passes.{Passed}
use Rattle.rowset.specs.Member.{rows_of}
use Rattle.paths.specs.History.{stored_at}
use Rattle.microstep.proofs.targets.targeted.Given as goal

abbrev pub invariant-loop-i : goal.invariant-loop-i
invariant-loop-i l = Passed (add_targets (chart_of l.round.chart.now) (stored_at l.round.history.now) (stored (chart_of l.round.chart.now) (rows_of l.round.conf) (stored_at l.round.history.now) (rows_of l.round.out))) [] (rows_of l.set) l.chosen l.i
