use borrow.Author.Rules.{rules}
use Rattle.tables.specs.Ranges.{layout}
use Rattle.definition.specs.Tables.{descriptor_cell}
use Rattle.tables.proofs.transitions.descriptor_cell.Goals as goal

pub overflow_add-at : goal.overflow_add-at
unfolding layout
overflow_add-at c = search rules

pub offset_bounds-numbers-at : goal.offset_bounds-numbers-at
unfolding layout
offset_bounds-numbers-at c = search rules

pub bounds-numbers-at : goal.bounds-numbers-at
unfolding layout
bounds-numbers-at c = search rules

pub returns : goal.returns
unfolding descriptor_cell
returns c = rw c.descriptor_base.ensures
