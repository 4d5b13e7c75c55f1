use borrow.Author.Rules.{rules}
use Rattle.definition.specs.Tables.{transition_count, reference_base}
use Rattle.tables.specs.Ranges.{layout}
use Rattle.tables.proofs.header.reference_base.Goals as goal

pub bounds-numbers-1 : goal.bounds-numbers-1
unfolding layout
bounds-numbers-1 c = search rules

pub overflow_mul-result : goal.overflow_mul-result
unfolding transition_count
overflow_mul-result c = search rules

pub overflow_add-result : goal.overflow_add-result
unfolding transition_count layout
overflow_add-result c = search rules

pub returns : goal.returns
unfolding reference_base transition_count
returns c = search rules
