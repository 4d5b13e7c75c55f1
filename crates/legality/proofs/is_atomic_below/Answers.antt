use Rattle.legality.specs.Stored.{below_not, below_atomic}
use mathlib.Core.Bool.{not}
use mathlib.Core.Path.{ap}
use Rattle.legality.proofs.is_atomic_below.Goals as goal

pub returns-then-not-has : goal.returns-then-not-has
returns-then-not-has c = below_not _ _ _ c.requires.1.inside _ c.descendants_of.ensures _ c.has.ensures (ap not c.if-not-has.true)

pub returns : goal.returns
returns c = below_atomic _ _ _ c.requires.1.inside _ c.descendants_of.ensures _ c.has.ensures _ (ap not c.if-not-has.false) c.is_atomic.ensures
