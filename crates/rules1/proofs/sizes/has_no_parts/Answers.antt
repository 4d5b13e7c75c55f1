use Rattle.rules1.specs.Inside.{has_no_parts}
use Rattle.rules1.proofs.sizes.has_no_parts.Goals as goal

pub returns : goal.returns
unfolding has_no_parts
returns c = rw (c.is_nothing-4.ensures, c.is_nothing-3.ensures, c.is_nothing-2.ensures, c.is_nothing.ensures)
