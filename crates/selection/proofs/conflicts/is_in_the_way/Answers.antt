use Rattle.selection.specs.Conflicts.{clear_of, in_the_way}
use mathlib.Core.Bool.{not}
use mathlib.Core.Path.{ap}
use Rattle.selection.proofs.conflicts.is_in_the_way.Goals as goal

pub exit_set-requires : goal.exit_set-requires
exit_set-requires c = let p = c.requires.0.move in record { move = record { ready = p.move.ready; room = p.move.room; inside = c.requires.1 }; fixed = p.fixed }

pub returns-then-not-meets : goal.returns-then-not-meets
returns-then-not-meets c = clear_of _ _ _ _ _ _ c.requires.0.exits _ _ c.exit_set.ensures c.meets.ensures (ap not c.if-not-meets.true)

pub source_of-requires : goal.source_of-requires
source_of-requires c = record { tables = c.requires.0.move.move.ready.tables; below = c.requires.1 }

pub descendants_of-below-requires : goal.descendants_of-below-requires
descendants_of-below-requires c = record { ready = c.requires.0.move.move.ready; inside = c.source_of.ensures.row.below }

pub source_of-requires-2 : goal.source_of-requires-2
source_of-requires-2 c = record { tables = c.requires.0.move.move.ready.tables; below = c.requires.0.move.move.inside }

pub returns : goal.returns
returns c = in_the_way _ _ _ _ _ _ c.requires.0.exits _ _ _ _ _ _ c.exit_set.ensures c.meets.ensures (ap not c.if-not-meets.false) c.source_of-2.ensures.is c.source_of.ensures.is c.descendants_of-below.ensures c.has.ensures
