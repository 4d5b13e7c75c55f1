use Rattle.grammar.specs.Tables.{kinds}
use Rattle.scan.proofs.kind_cell.Goals as goal

pub returns : goal.returns
unfolding kinds
returns c = c.cell.ensures
