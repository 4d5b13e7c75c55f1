use Rattle.laws.specs.Loops.{said_not_yes, said_not_no}
use Rattle.calls.specs.InPlace.{none_performed, all_performed}
use mathlib.Core.Bool.{not}
use mathlib.Core.Path.{ap}
use Rattle.calls.proofs.perform.Goals as goal

pub returns-then-not-places_fit : goal.returns-then-not-places_fit
returns-then-not-places_fit c = none_performed _ _ _ _ _ _ _ (said_not_yes _ _ c.places_fit.ensures (ap not c.if-not-places_fit.true))

pub perform_calls-requires : goal.perform_calls-requires
perform_calls-requires c = said_not_no _ _ c.places_fit.ensures (ap not c.if-not-places_fit.false)

pub returns : goal.returns
returns c = all_performed _ _ _ _ _ _ _ _ _ _ _ (said_not_no _ _ c.places_fit.ensures (ap not c.if-not-places_fit.false)) c.perform_calls.ensures
