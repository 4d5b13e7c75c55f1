use borrow.Author.Rules.{rules}
use Rattle.tags.specs.Cells.{to_fits}
use Rattle.tags.proofs.value_to.Goals as goal

pub overflow_add-result : goal.overflow_add-result
overflow_add-result c = search (rules, to_fits)
