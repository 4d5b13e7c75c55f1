use Rattle.rules1.proofs.sizes.transition_list_fits.Goals as goal

pub returns : goal.returns
returns c = rw (c.is_inside.ensures, c.transition_cell-count.ensures, c.transition_cell-start.ensures)
