use Rattle.laws.specs.Loops.{said_not_yes, said_not_no}
use Rattle.lent.specs.Starts.{start_unfit, start_fit}
use mathlib.Core.Bool.{not}
use mathlib.Core.Path.{ap}
use Rattle.lent.proofs.start.Goals as goal

pub returns-then-not-places_fit : goal.returns-then-not-places_fit
returns-then-not-places_fit c = start_unfit _ _ _ _ _ _ (said_not_yes _ _ c.places_fit.ensures (ap not c.if-not-places_fit.true))

pub start_checked-requires : goal.start_checked-requires
start_checked-requires c = (c.check-good.ensures, said_not_no _ _ c.places_fit.ensures (ap not c.if-not-places_fit.false))

pub returns : goal.returns
returns c = start_fit _ _ _ _ _ _ (said_not_no _ _ c.places_fit.ensures (ap not c.if-not-places_fit.false)) _ _ c.start_checked.ensures
