use Rattle.grammar.specs.Tables.{opened}
use Rattle.scan.proofs.open_cell.Goals as goal

pub returns : goal.returns
unfolding opened
returns c = c.cell.ensures
