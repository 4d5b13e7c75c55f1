use borrow.Author.Rules.{rules}
use Rattle.definition.specs.Tables.{descriptor_count, action_base}
use Rattle.tables.specs.Ranges.{layout}
use Rattle.tables.proofs.header.action_base.Goals as goal

pub bounds-numbers-3 : goal.bounds-numbers-3
unfolding layout
bounds-numbers-3 c = search rules

pub overflow_add-result : goal.overflow_add-result
unfolding descriptor_count layout
overflow_add-result c = search rules

pub returns : goal.returns
unfolding action_base descriptor_count
returns c = search rules
