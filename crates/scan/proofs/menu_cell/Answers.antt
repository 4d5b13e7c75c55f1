use Rattle.grammar.specs.Tables.{menus}
use Rattle.scan.proofs.menu_cell.Goals as goal

pub returns : goal.returns
unfolding menus
returns c = c.cell.ensures
