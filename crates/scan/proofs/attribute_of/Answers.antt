use Rattle.grammar.specs.Tables.{attrs}
use Rattle.grammar.specs.Grammar.{attribute}
use Rattle.scan.proofs.attribute_of.Goals as goal

pub returns : goal.returns
unfolding attrs attribute
returns c = rw (c.cell_at.ensures, c.from.ensures) at c.attr_cell.ensures
