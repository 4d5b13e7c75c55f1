use Rattle.rules1.proofs.sizes.is_nothing.Goals as goal

pub returns : goal.returns
returns c = rw (c.row_cell-count.ensures, c.row_cell-start.ensures)
