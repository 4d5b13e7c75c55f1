use mathlib.Core.Path.{refl}
use Rattle.lent.specs.Places.{lengths_fit}
use Rattle.lent.proofs.checking.lengths_fit.Goals as goal

pub returns : goal.returns
unfolding lengths_fit
returns c = refl
