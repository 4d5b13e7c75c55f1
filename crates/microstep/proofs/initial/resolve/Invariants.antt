use mathlib.Core.List.{[]}
use Rattle.std.specs.Prelude.{ℕ}
use Rattle.rowset.specs.Iterating.{Passing}
use Rattle.follower.specs.Microstep.{stored}
use Rattle.follower.specs.Selection.{add_stand_ins}
use Rattle.definition.specs.Tables.{chart_of}
use Rattle.rowset.specs.Visits.{Visited}
use Rattle.rowset.specs.Member.{rows_of}
use Rattle.paths.specs.History.{stored_at}
use Rattle.microstep.proofs.initial.resolve.Given as goal

abbrev pub invariant-loop-x : goal.invariant-loop-x
invariant-loop-x l = Passing (λ (k : ℕ). Visited (add_stand_ins (chart_of l.round.chart.now) (stored (chart_of l.round.chart.now) (rows_of l.round.conf) (stored_at l.round.history.now) (rows_of l.round.out))) [] (rows_of l.set) l.fn.targets k) l.fn.targets l.x-iterator
