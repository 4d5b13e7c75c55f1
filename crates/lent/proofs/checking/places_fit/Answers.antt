use Rattle.lent.specs.Places.{places_fit}
use Rattle.lent.proofs.checking.places_fit.Goals as goal

pub returns : goal.returns
unfolding places_fit
returns c = rw c.lengths_fit.ensures
