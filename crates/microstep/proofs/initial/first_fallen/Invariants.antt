use Rattle.std.specs.Prelude.{ℕ}
use Rattle.rowset.specs.Iterating.{Passing}
use Rattle.definition.specs.Rows.{nothing_at}
use Rattle.definition.specs.Tables.{chart_of}
use Rattle.follower.specs.Microstep.{add_fallen_initial}
use Rattle.rowset.specs.Visits.{Visited}
use Rattle.rowset.specs.Member.{rows_of}
use Rattle.microstep.proofs.initial.first_fallen.Given as goal

abbrev pub invariant-loop-r : goal.invariant-loop-r
invariant-loop-r l = Passing (λ (k : ℕ). Visited (add_fallen_initial (chart_of l.chart) nothing_at) (rows_of l.initial.set) (rows_of l.set) l.fn.by_default k) l.fn.by_default l.r-iterator
