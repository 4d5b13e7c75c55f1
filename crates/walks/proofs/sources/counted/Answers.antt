use borrow.Author.Rules.{rules}
use Rattle.walks.specs.Counts.{counted_none, counted_row, counted_list, counted_transition, counted_action}
use Rattle.walks.proofs.sources.counted.Goals as goal

pub returns-in-Nothing : goal.returns-in-Nothing
returns-in-Nothing c = search (rules, counted_none)

pub returns-in-Row : goal.returns-in-Row
returns-in-Row c = search (rules, counted_row)

pub returns-in-List : goal.returns-in-List
returns-in-List c = search (rules, counted_list)

pub returns-in-Transition : goal.returns-in-Transition
returns-in-Transition c = search (rules, counted_transition)

pub returns-in-Action : goal.returns-in-Action
returns-in-Action c = search (rules, counted_action)
