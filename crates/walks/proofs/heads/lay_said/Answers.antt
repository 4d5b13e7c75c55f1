use borrow.Author.Rules.{rules}
use Rattle.walks.specs.Heads.{laid_none, laid_list, laid_action, laid_row, laid_transition}
use Rattle.walks.proofs.heads.lay_said.Goals as goal

pub returns-in-Nothing : goal.returns-in-Nothing
returns-in-Nothing c = search (rules, laid_none)

pub returns-in-Row : goal.returns-in-Row
returns-in-Row c = search (rules, laid_row)

pub returns-in-List : goal.returns-in-List
returns-in-List c = search (rules, laid_list)

pub returns-in-Transition : goal.returns-in-Transition
returns-in-Transition c = search (rules, laid_transition)

pub returns-in-Action : goal.returns-in-Action
returns-in-Action c = search (rules, laid_action)
