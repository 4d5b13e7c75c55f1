use borrow.Author.Rules.{rules}
use Rattle.definition.specs.Tables.{parent_at}
use Rattle.tables.proofs.rows.parent_of.Goals as goal

pub returns : goal.returns
unfolding parent_at
returns c = search rules
