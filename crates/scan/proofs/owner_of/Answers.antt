use Rattle.grammar.specs.Tables.{owners}
use Rattle.grammar.specs.Grammar.{owner}
use Rattle.scan.proofs.owner_of.Goals as goal

pub returns : goal.returns
unfolding owners owner
returns c = rw c.from.ensures at c.owner_cell.ensures
