use Rattle.grammar.specs.Tables.{owners}
use Rattle.scan.proofs.owner_cell.Goals as goal

pub returns : goal.returns
unfolding owners
returns c = c.cell.ensures
