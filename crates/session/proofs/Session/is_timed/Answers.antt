use Rattle.laws.specs.Loops.{said_not_yes, said_not_no}
use Rattle.session.specs.Timing.{timed_judged, timed_neither}
use mathlib.Core.Bool.{not}
use mathlib.Core.Path.{ap}
use Rattle.session.proofs.Session.is_timed.Goals as goal

pub returns-then-not-is_session : goal.returns-then-not-is_session
returns-then-not-is_session c = timed_neither _ _ _ (said_not_yes _ _ c.is_session.ensures (ap not c.if-not-is_session.true))

pub returns : goal.returns
returns c = timed_judged _ _ _ (said_not_no _ _ c.is_session.ensures (ap not c.if-not-is_session.false)) _ _ c.from.ensures c.is_clock.ensures
