use Rattle.std.specs.Prelude.{ℕ}
use Rattle.rowset.specs.Iterating.{Passing}
use Rattle.definition.specs.Tables.{chart_of}
use Rattle.follower.specs.Microstep.{active_at, default_effects}
use Rattle.rowset.specs.Search.{rest_from}
use Rattle.rowset.specs.Member.{rows_of}
use Rattle.effects.specs.Trace.{places}
use Rattle.effects.specs.Emitting.{Emitting}
use Rattle.effects.proofs.entries.default_blocks.Given as goal

abbrev pub invariant-loop-h : goal.invariant-loop-h
invariant-loop-h l = Passing (λ (k : ℕ). Emitting (default_effects (chart_of l.chart) (active_at (rows_of l.stay) (rows_of l.set) l.r.0) l.r.0) (places l.initial.trace l.initial.joins) (places l.trace l.joins) l.initial.sum l.sum (rows_of l.fn.fallen) (rest_from (rows_of l.fn.fallen) k)) l.fn.fallen l.h-iterator
