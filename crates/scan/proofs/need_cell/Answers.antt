use Rattle.grammar.specs.Tables.{needed}
use Rattle.scan.proofs.need_cell.Goals as goal

pub returns : goal.returns
unfolding needed
returns c = c.cell.ensures
