use Rattle.grammar.specs.Tables.{adds}
use Rattle.scan.proofs.add_cell.Goals as goal

pub returns : goal.returns
unfolding adds
returns c = c.cell.ensures
