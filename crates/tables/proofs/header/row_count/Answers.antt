use borrow.Author.Rules.{rules}
use Rattle.definition.specs.Tables.{row_count}
use Rattle.tables.proofs.header.row_count.Goals as goal

pub returns : goal.returns
unfolding row_count
returns c = search rules
