use borrow.Author.Rules.{rules}
use Rattle.definition.specs.Tables.{reference_count}
use Rattle.tables.proofs.header.reference_count.Goals as goal

pub returns : goal.returns
unfolding reference_count
returns c = search rules
