use Rattle.definition.specs.Rules.{transition_fits}
use Rattle.rules.proofs.transitions.transition_fits.Goals as goal

pub returns : goal.returns
unfolding transition_fits
returns c = rw (c.spins.ensures, c.condition_fits.ensures, c.has_use.ensures, c.has_source.ensures, c.is_in_order.ensures)
