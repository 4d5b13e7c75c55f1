use borrow.Author.Rules.{rules}
use Rattle.walks.specs.Tags.{tag_said_room, tag_end_room, tag_filed}
use Rattle.walks.proofs.item_walk.file_tag.Goals as goal

pub file_said-requires : goal.file_said-requires
file_said-requires c = search (rules, tag_said_room)

pub file_end-requires : goal.file_end-requires
file_end-requires c = search (rules, tag_end_room)

pub returns : goal.returns
returns c = tag_filed _ _ _ _ _ _ _ _ _ _ _ c.keys_of-keys.ensures c.requires c.said_in-said.ensures _ _ c.file_said.ensures _ _ _ c.file_end.ensures c.counted.ensures
