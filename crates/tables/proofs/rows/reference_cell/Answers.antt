use borrow.Author.Rules.{rules}
use Rattle.tables.specs.Ranges.{layout}
use Rattle.definition.specs.Tables.{reference_cell}
use Rattle.tables.proofs.rows.reference_cell.Goals as goal

pub overflow_add-at : goal.overflow_add-at
unfolding layout
overflow_add-at c = search rules

pub offset_bounds-numbers-at : goal.offset_bounds-numbers-at
unfolding layout
offset_bounds-numbers-at c = search rules

pub bounds-numbers-at : goal.bounds-numbers-at
unfolding layout
bounds-numbers-at c = search rules

pub returns : goal.returns
unfolding reference_cell
returns c = rw c.reference_base.ensures
