use borrow.Author.Rules.{rules}
use Rattle.tables.specs.Ranges.{layout}
use Rattle.definition.specs.Tables.{transition_cell}
use borrow.Author.Tests.{lt-ltb}
use Rattle.tables.proofs.transitions.transition_cell.Goals as goal

pub overflow_add-at : goal.overflow_add-at
unfolding layout
overflow_add-at c = search rules

pub overflow_add-at-2 : goal.overflow_add-at-2
unfolding layout
overflow_add-at-2 c = search rules

pub offset_bounds-numbers-at : goal.offset_bounds-numbers-at
unfolding layout
offset_bounds-numbers-at c = search rules

pub bounds-numbers-at : goal.bounds-numbers-at
unfolding layout
bounds-numbers-at c = search rules

pub returns : goal.returns
unfolding transition_cell
returns c = rw (c.transition_base.ensures, lt-ltb _ _ c.requires.transition)
