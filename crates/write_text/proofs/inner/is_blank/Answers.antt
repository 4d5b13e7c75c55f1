use borrow.Author.Rules.{rules}
use Rattle.write_text.specs.Inner.{blank_entry, blank_exit, blank_run, blank_list, blank_history, blank_block}
use Rattle.write_text.proofs.inner.is_blank.Goals as goal

pub returns-then-row_cell-ne0 : goal.returns-then-row_cell-ne0
returns-then-row_cell-ne0 c = search (rules, blank_entry)

pub returns-then-row_cell-ne0-2 : goal.returns-then-row_cell-ne0-2
returns-then-row_cell-ne0-2 c = search (rules, blank_exit)

pub returns-then-t-end : goal.returns-then-t-end
returns-then-t-end c = search (rules, blank_run)

pub returns-then-row_cell-eq0 : goal.returns-then-row_cell-eq0
returns-then-row_cell-eq0 c = search (rules, blank_list)

pub returns-then-is_history : goal.returns-then-is_history
returns-then-is_history c = search (rules, blank_history)

pub returns : goal.returns
returns c = search (rules, blank_block)
