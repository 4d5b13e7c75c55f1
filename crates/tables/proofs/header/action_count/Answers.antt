use borrow.Author.Rules.{rules}
use Rattle.definition.specs.Tables.{action_count}
use Rattle.tables.proofs.header.action_count.Goals as goal

pub returns : goal.returns
unfolding action_count
returns c = search rules
