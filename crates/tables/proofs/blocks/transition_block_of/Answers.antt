use borrow.Author.Rules.{rules}
use Rattle.definition.specs.Tables.{transition_block_at}
use Rattle.tables.specs.Parts.{block_as}
use Rattle.tables.specs.Ranges.{transition_fits_lem}
use Rattle.tables.proofs.blocks.transition_block_of.Goals as goal

pub actions_part-requires : goal.actions_part-requires
actions_part-requires c = let f = (transition_fits_lem _ _ c.requires).block in search rules

pub returns : goal.returns
unfolding transition_block_at
returns c = block_as _ _ _ _ _ _ c.transition_cell-start.ensures c.transition_cell-count.ensures c.actions_part.ensures
