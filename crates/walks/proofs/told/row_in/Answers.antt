use borrow.Author.Rules.{rules}
use Rattle.gather.specs.Faults.{name_first, name_quote}
use Rattle.walks.specs.Told.{row_fits, row_none, row_named}
use Rattle.walks.proofs.told.row_in.Goals as goal

pub slice_bounds-place_of-end-in-Some : goal.slice_bounds-place_of-end-in-Some
slice_bounds-place_of-end-in-Some c = search (rules, name_quote)

pub overflow_add-result : goal.overflow_add-result
overflow_add-result c = search (rules, row_fits)

pub slice_bounds-place_of-count-in-Some : goal.slice_bounds-place_of-count-in-Some
slice_bounds-place_of-count-in-Some c = search (rules, name_first)

pub overflow_add-result-in-Some : goal.overflow_add-result-in-Some
overflow_add-result-in-Some c = search (rules, row_fits)

pub returns-in-None : goal.returns-in-None
returns-in-None c = search (rules, row_none)

pub returns-in-Some : goal.returns-in-Some
returns-in-Some c = search (rules, row_named)
