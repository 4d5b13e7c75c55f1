use borrow.Author.Rules.{rules}
use Rattle.walks.specs.TagItems.{end_none, end_room, end_filed}
use Rattle.walks.proofs.tag_items.file_end.Goals as goal

pub file_act-requires : goal.file_act-requires
file_act-requires c = search (rules, end_room)

pub returns-then-ended : goal.returns-then-ended
returns-then-ended c = search (rules, end_filed)

pub returns-else-ended : goal.returns-else-ended
returns-else-ended c = search (rules, end_none)
