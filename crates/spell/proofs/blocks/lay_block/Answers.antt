use borrow.Author.Rules.{rules}
use Rattle.spell.specs.Blocks.{block_begin, block_hollow, block_action, block_row, block_pair, block_one, block_end}
use Rattle.spell.proofs.blocks.lay_block.Goals as goal

pub loop-a-init : goal.loop-a-init
loop-a-init c = search (rules, block_begin)

pub is_hollow-hollow-requires : goal.is_hollow-hollow-requires
is_hollow-hollow-requires c = search (rules, block_hollow)

pub lay_condition-next-requires : goal.lay_condition-next-requires
lay_condition-next-requires c = search (rules, block_row)

pub loop-a-preserved-then-hollow : goal.loop-a-preserved-then-hollow
loop-a-preserved-then-hollow c = search (rules, block_pair)

pub lay_action-next-requires : goal.lay_action-next-requires
lay_action-next-requires c = search (rules, block_action)

pub loop-a-preserved : goal.loop-a-preserved
loop-a-preserved c = search (rules, block_one)

pub returns : goal.returns
returns c = search (rules, block_end)
