use borrow.Author.Rules.{rules}
use Rattle.tags.specs.Cells.{note_other, note_again, note_first, word_least, cell_from, cell_long, cell_set}
use Rattle.tags.proofs.note_value.Goals as goal

pub overflow_sub-i : goal.overflow_sub-i
overflow_sub-i c = search (rules, word_least)

pub bounds-cells-i : goal.bounds-cells-i
bounds-cells-i c = search (rules, cell_long)

pub bounds-cells-i-then-cells-i-eq0 : goal.bounds-cells-i-then-cells-i-eq0
bounds-cells-i-then-cells-i-eq0 c = search (rules, cell_from)

pub bounds-cells-i-then-cells-i-eq0-2 : goal.bounds-cells-i-then-cells-i-eq0-2
bounds-cells-i-then-cells-i-eq0-2 c = search (rules, cell_set)

pub returns-then-cells-i-eq0 : goal.returns-then-cells-i-eq0
returns-then-cells-i-eq0 c = search (rules, note_first)

pub returns-else-cells-i-eq0 : goal.returns-else-cells-i-eq0
returns-else-cells-i-eq0 c = search (rules, note_again, note_other)

pub returns-else-is_word : goal.returns-else-is_word
returns-else-is_word c = search (rules, note_again, note_other)
