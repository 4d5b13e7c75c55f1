use borrow.Author.Rules.{rules}
use Rattle.walks.specs.TagItems.{said_nothing, row_room, row_filed, list_room, list_filed, action_room, action_filed, moves_room, moves_filed}
use Rattle.walks.proofs.tag_items.file_said.Goals as goal

pub file_value-requires : goal.file_value-requires
file_value-requires c = search (rules, row_room)

pub file_value-requires-in-List : goal.file_value-requires-in-List
file_value-requires-in-List c = search (rules, list_room)

pub file_transition-requires : goal.file_transition-requires
file_transition-requires c = search (rules, moves_room)

pub file_act-requires : goal.file_act-requires
file_act-requires c = search (rules, action_room)

pub returns-in-Nothing : goal.returns-in-Nothing
returns-in-Nothing c = search (rules, said_nothing)

pub returns-in-Row : goal.returns-in-Row
returns-in-Row c = search (rules, row_filed)

pub returns-in-List : goal.returns-in-List
returns-in-List c = search (rules, list_filed)

pub returns-in-Transition : goal.returns-in-Transition
returns-in-Transition c = search (rules, moves_filed)

pub returns-in-Action : goal.returns-in-Action
returns-in-Action c = search (rules, action_filed)
