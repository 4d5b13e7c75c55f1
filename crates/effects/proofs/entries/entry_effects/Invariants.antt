use Rattle.std.specs.Prelude.{ℕ}
use Rattle.rowset.specs.Iterating.{Passing}
use Rattle.follower.specs.Microstep.{entry_effects}
use Rattle.definition.specs.Tables.{chart_of}
use Rattle.rowset.specs.Search.{rest_from}
use Rattle.rowset.specs.Member.{rows_of}
use Rattle.effects.specs.Entering.{entry_is}
use Rattle.effects.specs.Trace.{places}
use Rattle.effects.specs.Emitting.{Emitting}
use Rattle.effects.proofs.entries.entry_effects.Given as goal

abbrev pub invariant-loop-r : goal.invariant-loop-r
invariant-loop-r l = Passing (λ (k : ℕ). Emitting (entry_effects (chart_of l.chart) (rows_of l.stay) (entry_is l.set l.defaults) (rows_of l.fallen)) (places l.initial.trace l.initial.joins) (places l.trace l.joins) l.initial.sum l.sum (rows_of l.set) (rest_from (rows_of l.set) k)) l.set l.r-iterator
