use borrow.Author.Rules.{rules}
use Rattle.elements.specs.Lists.{row_list_history, row_list_plain, row_list_element}
use Rattle.elements.proofs.lists.lay_stated.Goals as goal

pub returns-then-is_history : goal.returns-then-is_history
returns-then-is_history c = search (rules, row_list_history)

pub returns-then-row_cell-eq0 : goal.returns-then-row_cell-eq0
returns-then-row_cell-eq0 c = search (rules, row_list_plain)

pub returns : goal.returns
returns c = search (rules, row_list_element)
