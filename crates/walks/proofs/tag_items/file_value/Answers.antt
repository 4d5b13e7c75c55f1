use borrow.Author.Rules.{rules}
use Rattle.walks.specs.TagItems.{value_names, value_filed}
use Rattle.walks.proofs.tag_items.file_value.Goals as goal

pub file_names-requires : goal.file_names-requires
file_names-requires c = search (rules, value_names)

pub returns : goal.returns
returns c = search (rules, value_filed)
