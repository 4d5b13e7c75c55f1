use borrow.Author.Rules.{rules}
use Rattle.elements.specs.Lists.{initial_none, initial_history, initial_element, list_ready, initial_some}
use Rattle.elements.proofs.lists.lay_initial.Goals as goal

pub returns-then-row_cell-eq0 : goal.returns-then-row_cell-eq0
returns-then-row_cell-eq0 c = search (rules, initial_none)

pub returns-then-is_history : goal.returns-then-is_history
returns-then-is_history c = search (rules, initial_history)

pub returns-then-row_cell-ne0 : goal.returns-then-row_cell-ne0
returns-then-row_cell-ne0 c = search (rules, initial_element)

pub lay_list-requires : goal.lay_list-requires
lay_list-requires c = search (rules, list_ready)

pub returns : goal.returns
returns c = search (rules, initial_some)
