use borrow.Author.Rules.{rules}
use Rattle.spell.specs.Lists.{item_row, item_name}
use Rattle.spell.proofs.lists.lay_item.Goals as goal

pub lay_id-requires : goal.lay_id-requires
lay_id-requires c = search (rules, item_row)

pub lay_name-requires : goal.lay_name-requires
lay_name-requires c = search (rules, item_name)
