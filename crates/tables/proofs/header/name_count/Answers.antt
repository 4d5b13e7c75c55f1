use borrow.Author.Rules.{rules}
use Rattle.definition.specs.Tables.{name_count}
use Rattle.tables.proofs.header.name_count.Goals as goal

pub returns : goal.returns
unfolding name_count
returns c = search rules
