use borrow.Author.Rules.{rules}
use Rattle.tables.specs.Ranges.{layout}
use Rattle.tables.proofs.header.tables_size.Goals as goal

pub returns : goal.returns
unfolding layout
returns c = search rules
