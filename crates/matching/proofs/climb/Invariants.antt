use mathlib.Core.Path.{◌≡◌}
use Prim.Native.Nat.{◌-◌, ◌≤◌, ◌<◌}
use Rattle.follower.specs.Selection.{choice}
use Rattle.definition.specs.Tables.{row_count, transition_count, name_at, chart_of}
use Rattle.rowset.specs.Member.{rows_of}
use Rattle.matching.specs.Climb.{choice_from}
use Rattle.matching.specs.Climbed.{Climbing}
use Rattle.matching.specs.Events.{event_of}
use Rattle.std.specs.declared.option.Option.TheVariants.{None}
use Rattle.matching.proofs.climb.Given as goal

abbrev pub invariant-loop-t : goal.invariant-loop-t
invariant-loop-t l = (l.initial.t ≤ l.t) × (l.t ≤ l.end) × (l.end ≤ transition_count l.chart) × (l.chosen ≡ None) × (choice (chart_of l.chart) (name_at l.names) (rows_of l.conf) (event_of l.event) l.a ≡ choice_from (chart_of l.chart) (name_at l.names) (rows_of l.conf) (event_of l.event) l.a l.t l.end)

abbrev pub invariant-climb : goal.invariant-climb
invariant-climb l = (l.a < row_count l.chart) × (row_count l.chart ≤ 256) × (l.chosen ≡ None) × Climbing (chart_of l.chart) (name_at l.names) (rows_of l.conf) (event_of l.event) (rows_of l.initial.rows) l.initial.a l.a (rows_of l.rows)

abbrev pub decreases-climb : goal.decreases-climb
decreases-climb l = l.a
