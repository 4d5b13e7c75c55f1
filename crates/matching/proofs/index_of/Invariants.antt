use mathlib.Core.Path.{◌≡◌}
use Prim.Native.Nat.{◌+◌, ◌-◌, ◌≤◌}
use Rattle.definition.specs.Tables.{transition_count, row_count, chart_of}
use Rattle.matching.specs.Sources.{Indexing}
use Rattle.matching.proofs.index_of.Given as goal

abbrev pub invariant-loop-i : goal.invariant-loop-i
invariant-loop-i l = (l.i ≤ l.rows + 1) × (l.rows ≤ 256) × (l.rows ≡ row_count l.chart) × Indexing (chart_of l.chart) l.starts l.i l.t

abbrev pub decreases-loop-i : goal.decreases-loop-i
decreases-loop-i l = (l.rows + 1 - l.i) + (transition_count l.chart - l.t)
