use mathlib.Core.Path.{ap}
use mathlib.Core.Bool.{not}
use Rattle.room.specs.Adding.{no_chart, chart_tables, chart_room}
use Rattle.room.proofs.room.Goals as goal

pub returns-then-not-check : goal.returns-then-not-check
returns-then-not-check c = no_chart _ _ _ c.check.ensures (ap not c.if-not-check.true)

pub rows_room-requires : goal.rows_room-requires
rows_room-requires c = chart_tables _ _ _ c.check.ensures (ap not c.if-not-check.false)

pub transitions_room-requires : goal.transitions_room-requires
transitions_room-requires c = chart_tables _ _ _ c.check.ensures (ap not c.if-not-check.false)

pub returns : goal.returns
returns c = chart_room _ _ _ c.check.ensures (ap not c.if-not-check.false) _ _ _ _ c.rows_room.ensures c.transitions_room.ensures
