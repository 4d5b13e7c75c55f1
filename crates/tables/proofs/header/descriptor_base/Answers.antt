use borrow.Author.Rules.{rules}
use Rattle.definition.specs.Tables.{reference_count, descriptor_base}
use Rattle.tables.specs.Ranges.{layout}
use Rattle.tables.proofs.header.descriptor_base.Goals as goal

pub bounds-numbers-2 : goal.bounds-numbers-2
unfolding layout
bounds-numbers-2 c = search rules

pub overflow_add-result : goal.overflow_add-result
unfolding reference_count layout
overflow_add-result c = search rules

pub returns : goal.returns
unfolding descriptor_base reference_count
returns c = search rules
