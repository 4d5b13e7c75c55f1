use Rattle.grammar.specs.Tables.{ends}
use Rattle.scan.proofs.end_cell.Goals as goal

pub returns : goal.returns
unfolding ends
returns c = c.cell.ensures
