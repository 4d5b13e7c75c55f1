use Rattle.grammar.specs.Tables.{adds}
use Rattle.grammar.specs.Grammar.{added}
use Rattle.scan.proofs.with_it.Goals as goal

pub returns : goal.returns
unfolding adds added
returns c = rw (c.cell_at.ensures, c.from.ensures) at c.add_cell.ensures
