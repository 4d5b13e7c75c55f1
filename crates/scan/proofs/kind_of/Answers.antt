use Rattle.grammar.specs.Tables.{kinds}
use Rattle.grammar.specs.Grammar.{kind_of}
use Rattle.scan.proofs.kind_of.Goals as goal

pub returns : goal.returns
unfolding kinds kind_of
returns c = rw (c.cell_at.ensures, c.from.ensures) at c.kind_cell.ensures
