use Rattle.grammar.specs.Tables.{attrs}
use Rattle.scan.proofs.attr_cell.Goals as goal

pub returns : goal.returns
unfolding attrs
returns c = c.cell.ensures
