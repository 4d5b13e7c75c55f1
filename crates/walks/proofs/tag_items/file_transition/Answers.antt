use borrow.Author.Rules.{rules}
use Rattle.walks.specs.TagItems.{target_room, descriptor_room, transition_filed}
use Rattle.walks.proofs.tag_items.file_transition.Goals as goal

pub file_value-requires : goal.file_value-requires
file_value-requires c = search (rules, target_room)

pub file_value-requires-2 : goal.file_value-requires-2
file_value-requires-2 c = search (rules, descriptor_room)

pub returns : goal.returns
returns c = search (rules, transition_filed)
