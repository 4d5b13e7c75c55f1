use borrow.Author.Rules.{rules}
use Rattle.gather.specs.Faults.{condition_none, name_first, name_quote, name_fits, condition_named}
use Rattle.gather.proofs.faults.condition_fault.Goals as goal

pub slice_bounds-is_bad-end : goal.slice_bounds-is_bad-end
slice_bounds-is_bad-end c = search (rules, name_quote)

pub slice_bounds-is_bad-count : goal.slice_bounds-is_bad-count
slice_bounds-is_bad-count c = search (rules, name_first)

pub overflow_add-from : goal.overflow_add-from
overflow_add-from c = search (rules, name_fits)

pub returns-in-None : goal.returns-in-None
returns-in-None c = search (rules, condition_none)

pub returns-in-Some : goal.returns-in-Some
returns-in-Some c = search (rules, condition_named)
