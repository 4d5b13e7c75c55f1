use borrow.Author.Rules.{rules}
use Rattle.cells.specs.Starts.{entries_from, entries_before, entries_are}
use Rattle.cells.proofs.entries_in.Goals as goal

pub start_of-start-requires : goal.start_of-start-requires
start_of-start-requires c = search (rules, entries_from)

pub overflow_sub-result : goal.overflow_sub-result
overflow_sub-result c = search (rules, entries_before)

pub returns : goal.returns
returns c = search (rules, entries_are)
