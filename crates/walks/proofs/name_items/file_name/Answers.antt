use borrow.Author.Rules.{rules}
use Rattle.walks.specs.Names.{name_fits, name_able, name_filed}
use Rattle.walks.proofs.name_items.file_name.Goals as goal

pub overflow_add-number : goal.overflow_add-number
overflow_add-number c = search (rules, name_fits)

pub file_item-requires : goal.file_item-requires
file_item-requires c = search (rules, name_able)

pub returns : goal.returns
returns c = search (rules, name_filed)
