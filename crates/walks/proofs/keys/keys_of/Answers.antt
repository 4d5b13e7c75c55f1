use borrow.Author.Rules.{rules}
use Rattle.walks.specs.Keys.{keys_none, keys_row, keys_list, keys_transition, keys_action}
use Rattle.walks.proofs.keys.keys_of.Goals as goal

pub returns-in-Nothing : goal.returns-in-Nothing
returns-in-Nothing c = search (rules, keys_none)

pub returns-in-Row : goal.returns-in-Row
returns-in-Row c = search (rules, keys_row)

pub returns-in-List : goal.returns-in-List
returns-in-List c = search (rules, keys_list)

pub returns-in-Transition : goal.returns-in-Transition
returns-in-Transition c = search (rules, keys_transition)

pub returns-in-Action : goal.returns-in-Action
returns-in-Action c = search (rules, keys_action)
