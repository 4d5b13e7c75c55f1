use borrow.Author.Rules.{rules}
use Rattle.definition.specs.Rules.{compiled_size}
use Rattle.tables.specs.Ranges.{layout}
use Rattle.tables.proofs.header.compiled_size.Goals as goal

pub overflow_add-result : goal.overflow_add-result
unfolding layout
overflow_add-result c = search rules

pub overflow_add-result-2 : goal.overflow_add-result-2
unfolding layout
overflow_add-result-2 c = search rules

pub returns : goal.returns
unfolding compiled_size
returns c = search rules
