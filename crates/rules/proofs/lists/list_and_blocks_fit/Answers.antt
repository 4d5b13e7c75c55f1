use Rattle.rules.proofs.lists.list_and_blocks_fit.Goals as goal

pub returns : goal.returns
returns c = rw (c.blocks_fit.ensures, c.list_fits.ensures)
