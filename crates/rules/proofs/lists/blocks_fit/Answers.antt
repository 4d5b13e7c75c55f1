use Rattle.rules.specs.Lists.{block_none}
use Rattle.definition.specs.Rules.{blocks_fit}
use Rattle.rules.proofs.lists.blocks_fit.Goals as goal

pub returns : goal.returns
unfolding blocks_fit
returns c = rw (
  block_none _ _ _ c.list_block_of-block.ensures,
  block_none _ _ _ c.entry_block_of-entry.ensures,
  block_none _ _ _ c.exit_block_of-exit.ensures,
  c.is_history.ensures,
  c.is_root-root.ensures,
  c.kind_of-kind.ensures,
)
