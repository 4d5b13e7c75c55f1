use Rattle.std.specs.Prelude.{ℕ}
use Rattle.rowset.specs.Iterating.{Passing}
use Rattle.follower.specs.Microstep.{stored}
use Rattle.definition.specs.Tables.{chart_of}
use Rattle.rowset.specs.Visits.{Visited}
use Rattle.rowset.specs.Member.{rows_of}
use Rattle.paths.specs.History.{stored_at}
use Rattle.microstep.specs.Targets.{add_fell}
use Rattle.microstep.proofs.initial.add_fallen_initial.Given as goal

abbrev pub invariant-loop-x : goal.invariant-loop-x
invariant-loop-x l = Passing (λ (k : ℕ). Visited (add_fell (chart_of l.round.chart.now) (stored (chart_of l.round.chart.now) (rows_of l.round.conf) (stored_at l.round.history.now) (rows_of l.round.out))) (rows_of l.initial.set) (rows_of l.set) l.initial.x-iterator.set k) l.initial.x-iterator.set l.x-iterator
