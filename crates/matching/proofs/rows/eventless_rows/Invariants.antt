use mathlib.Core.List.{[]}
use mathlib.Core.Path.{◌≡◌}
use Prim.Native.Nat.{◌-◌}
use Rattle.definition.specs.Tables.{transition_count, chart_of}
use Rattle.laws.specs.Passes.{Counted}
use Rattle.rowset.specs.Member.{rows_of}
use Rattle.matching.specs.Eventless.{add_eventless}
use Rattle.matching.proofs.rows.eventless_rows.Given as goal

abbrev pub invariant-loop-t : goal.invariant-loop-t
invariant-loop-t l = (l.n ≡ transition_count l.chart) × Counted (add_eventless (chart_of l.chart)) [] (rows_of l.set) l.n l.t
