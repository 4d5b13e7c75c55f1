use borrow.Author.Rules.{rules}
use Rattle.cells.specs.Header.{cells_transitions, cells_header, cells_laid}
use Rattle.cells.proofs.lay_cells.Goals as goal

pub transition_cells-requires : goal.transition_cells-requires
transition_cells-requires c = search (rules, cells_transitions)

pub lay_header-requires : goal.lay_header-requires
lay_header-requires c = search (rules, cells_header)

pub returns : goal.returns
returns c = search (rules, cells_laid)
