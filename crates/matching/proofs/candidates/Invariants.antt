use mathlib.Core.Path.{◌≡◌}
use Prim.Native.Nat.{◌≤◌}
use lib.ListN.{length}
use mathlib.Core.List.{[]}
use Rattle.follower.specs.Selection.{choose}
use Rattle.definition.specs.Tables.{name_at, chart_of}
use Rattle.rowset.specs.Visits.{Visited}
use Rattle.rowset.specs.Iterating.{Passing}
use Rattle.rowset.specs.Member.{rows_of}
use Rattle.matching.specs.Chosen.{list_of}
use Rattle.matching.specs.Choosers.{Choosing}
use Rattle.matching.specs.Climbed.{Covers}
use Rattle.matching.specs.Events.{event_of}
use Rattle.matching.proofs.candidates.Given as goal

abbrev pub invariant-loop-i : goal.invariant-loop-i
invariant-loop-i l =
    Passing (λ k.
    (length l.items ≡ 768) × (l.len ≤ k) × Visited (choose (chart_of l.chart) (name_at l.names) (rows_of l.conf) (event_of l.event)) [] (list_of l.items l.len) l.initial.i-iterator.set k ×
    Covers (chart_of l.chart) (name_at l.names) (rows_of l.conf) (event_of l.event) (rows_of l.climbed) (list_of l.items l.len) ×
    Choosing (chart_of l.chart) (name_at l.names) (rows_of l.conf) (event_of l.event) l.initial.i-iterator.set l.items (list_of l.items l.len) k)
    l.initial.i-iterator.set l.i-iterator
