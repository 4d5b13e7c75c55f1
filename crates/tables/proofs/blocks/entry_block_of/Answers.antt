use Rattle.std.proofs.Common.{rules}
use Rattle.definition.specs.Tables.{entry_at}
use Rattle.tables.specs.Ranges.{row_fits}
use Rattle.tables.proofs.blocks.entry_block_of.Goals as goal

pub row_block-requires-clause-block : goal.row_block-requires-clause-block
row_block-requires-clause-block c = let f = (row_fits _ _ c.requires).entry in search rules

pub returns : goal.returns
unfolding entry_at
returns c = c.row_block.ensures
