use mathlib.Core.Path.{◌≡◌}
use Prim.Native.Nat.{◌-◌}
use Rattle.definition.specs.Tables.{row_count, chart_of}
use Rattle.room.specs.Room.{add_row, most_row_room}
use Rattle.room.specs.Adding.{Added}
use Rattle.room.proofs.rows_room.Given as goal

abbrev pub invariant-loop-i : goal.invariant-loop-i
invariant-loop-i l = (l.rows ≡ row_count l.chart) × Added (add_row (chart_of l.chart)) most_row_room l.rows l.i l.sum
