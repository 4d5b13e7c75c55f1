use borrow.Author.Rules.{rules}
use Rattle.elements.specs.Lists.{row_list_none, row_list_ready}
use Rattle.elements.proofs.lists.lay_row_list.Goals as goal

pub returns-then-row_cell-eq0 : goal.returns-then-row_cell-eq0
returns-then-row_cell-eq0 c = search (rules, row_list_none)

pub lay_stated-requires : goal.lay_stated-requires
lay_stated-requires c = search (rules, row_list_ready)
