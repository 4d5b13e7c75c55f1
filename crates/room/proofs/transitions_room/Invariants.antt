use mathlib.Core.Path.{◌≡◌}
use Prim.Native.Nat.{◌-◌}
use Rattle.definition.specs.Tables.{transition_count, chart_of}
use Rattle.room.specs.Room.{add_transition, most_transition_room}
use Rattle.room.specs.Adding.{Added}
use Rattle.room.proofs.transitions_room.Given as goal

abbrev pub invariant-loop-t : goal.invariant-loop-t
invariant-loop-t l = (l.n ≡ transition_count l.chart) × Added (add_transition (chart_of l.chart)) most_transition_room l.n l.t l.sum
