use Rattle.grammar.specs.Tables.{bits}
use Rattle.scan.proofs.bit_cell.Goals as goal

pub returns : goal.returns
unfolding bits
returns c = c.cell.ensures
