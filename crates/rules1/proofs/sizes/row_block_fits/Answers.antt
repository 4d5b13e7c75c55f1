use Rattle.rules1.proofs.sizes.row_block_fits.Goals as goal

pub returns : goal.returns
returns c = rw (c.block_fits.ensures, c.row_cell-count.ensures, c.row_cell-start.ensures)
