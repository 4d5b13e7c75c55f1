use borrow.Author.Rules.{rules}
use Rattle.cells.specs.Starts.{part_start, part_count, part_laid}
use Rattle.cells.proofs.lay_part.Goals as goal

pub entries_in-requires : goal.entries_in-requires
entries_in-requires c = search (rules, part_start)

pub entries_in-requires-2 : goal.entries_in-requires-2
entries_in-requires-2 c = search (rules, part_count)

pub returns : goal.returns
returns c = search (rules, part_laid)
