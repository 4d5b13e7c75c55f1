use mathlib.Core.Path.{◌≡◌}
use Prim.Native.Nat.{◌≤◌, ◌<◌}
use Rattle.follower.specs.Selection.{holds_all}
use Rattle.definition.specs.Tables.{row_count, chart_of}
use Rattle.rowset.specs.Member.{rows_of}
use Rattle.selection.specs.Domain.{nearest}
use Rattle.selection.proofs.domains.domain_of.Given as goal

abbrev pub invariant-loop-a : goal.invariant-loop-a
invariant-loop-a l = (l.a < row_count l.chart) × (row_count l.chart ≤ 256) × (nearest (chart_of l.chart) (holds_all (chart_of l.chart) (rows_of l.targets)) l.initial.a ≡ nearest (chart_of l.chart) (holds_all (chart_of l.chart) (rows_of l.targets)) l.a)

abbrev pub decreases-loop-a : goal.decreases-loop-a
decreases-loop-a l = l.a
