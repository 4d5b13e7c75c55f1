use Rattle.matching.specs.Eventless.{eventless_skip, eventless_add}
use Rattle.matching.proofs.rows.add_eventless.Goals as goal

pub descriptors_of-requires : goal.descriptors_of-requires
descriptors_of-requires c = record { tables = c.requires.ready.tables; below = c.requires.inside }

pub returns-then-descriptors_of-gt0 : goal.returns-then-descriptors_of-gt0
returns-then-descriptors_of-gt0 c = eventless_skip _ _ _ _ c.descriptors_of.ensures.is c.if-descriptors_of-gt0.true

pub source_of-source-requires : goal.source_of-source-requires
source_of-source-requires c = record { tables = c.requires.ready.tables; below = c.requires.inside }

pub descendants_of-requires : goal.descendants_of-requires
descendants_of-requires c = record { ready = c.requires.ready; inside = c.source_of-source.ensures.row.below }

pub returns : goal.returns
returns c = eventless_add _ _ _ _ c.descriptors_of.ensures.is _ _ _ _ c.if-descriptors_of-gt0.false c.source_of-source.ensures.is c.with.ensures c.descendants_of.ensures c.union.ensures
