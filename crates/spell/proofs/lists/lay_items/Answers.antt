use borrow.Author.Rules.{rules}
use Rattle.spell.specs.Lists.{items_begin, items_item, items_turn, items_end}
use Rattle.spell.proofs.lists.lay_items.Goals as goal

pub loop-k-init : goal.loop-k-init
loop-k-init c = search (rules, items_begin)

pub lay_item-next-requires : goal.lay_item-next-requires
lay_item-next-requires c = search (rules, items_item)

pub loop-k-preserved : goal.loop-k-preserved
loop-k-preserved c = search (rules, items_turn)

pub returns : goal.returns
returns c = search (rules, items_end)
