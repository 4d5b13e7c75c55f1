use borrow.Author.Rules.{rules}
use Rattle.definition.specs.Tables.{descriptor_count}
use Rattle.tables.proofs.header.descriptor_count.Goals as goal

pub returns : goal.returns
unfolding descriptor_count
returns c = search rules
