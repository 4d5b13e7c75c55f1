use Rattle.std.specs.Prelude.{ℕ}
use Rattle.rowset.specs.Iterating.{PassingDown}
use Rattle.follower.specs.Microstep.{exit_effects}
use Rattle.definition.specs.Rows.{backwards}
use Rattle.definition.specs.Tables.{chart_of}
use Rattle.rowset.specs.Member.{rows_of}
use Rattle.rowset.specs.Search.{rest_below}
use Rattle.effects.specs.Trace.{places}
use Rattle.effects.specs.Emitting.{Emitting}
use Rattle.effects.proofs.exits.exit_effects.Given as goal

abbrev pub invariant-loop-r : goal.invariant-loop-r
invariant-loop-r l = PassingDown (λ (k : ℕ). Emitting (exit_effects (chart_of l.chart) (rows_of l.conf) (rows_of l.out)) (places l.initial.trace l.initial.joins) (places l.trace l.joins) l.initial.sum l.sum (backwards (rows_of l.out)) (rest_below (rows_of l.out) k)) l.out l.r-iterator
