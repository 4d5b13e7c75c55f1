use borrow.Author.Rules.{rules}
use Rattle.definition.specs.Tables.{transition_count}
use Rattle.tables.proofs.header.transition_count.Goals as goal

pub returns : goal.returns
unfolding transition_count
returns c = search rules
