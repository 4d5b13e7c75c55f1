use Rattle.std.specs.Prelude.{ℕ}
use Rattle.rowset.specs.Iterating.{Passing}
use Rattle.follower.specs.Microstep.{stored, add_fallen_initial}
use Rattle.definition.specs.Tables.{chart_of}
use Rattle.rowset.specs.Visits.{Visited}
use Rattle.rowset.specs.Member.{rows_of}
use Rattle.paths.specs.History.{stored_at}
use Rattle.microstep.proofs.initial.with_initial.Given as goal

abbrev pub invariant-loop-r : goal.invariant-loop-r
invariant-loop-r l = Passing (λ (k : ℕ). Visited (add_fallen_initial (chart_of l.round.chart.now) (stored (chart_of l.round.chart.now) (rows_of l.round.conf) (stored_at l.round.history.now) (rows_of l.round.out))) (rows_of l.initial.set) (rows_of l.set) l.fn.by_default k) l.fn.by_default l.r-iterator
