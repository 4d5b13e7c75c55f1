use Rattle.definition.specs.Rules.{block_fits}
use Rattle.rules1.proofs.sizes.block_fits.Goals as goal

pub returns : goal.returns
unfolding block_fits
returns c = rw (c.is_inside.ensures, c.action_count.ensures)
