use borrow.Author.Rules.{rules}
use Rattle.definition.specs.Tables.{row_count, transition_base}
use Rattle.tables.specs.Ranges.{layout}
use Rattle.tables.proofs.header.transition_base.Goals as goal

pub bounds-numbers-0 : goal.bounds-numbers-0
unfolding layout
bounds-numbers-0 c = search rules

pub overflow_mul-result : goal.overflow_mul-result
unfolding row_count
overflow_mul-result c = search rules

pub overflow_add-result : goal.overflow_add-result
unfolding row_count layout
overflow_add-result c = search rules

pub returns : goal.returns
unfolding transition_base row_count
returns c = search rules
