use Rattle.laws.specs.Loops.{said_not_yes, said_not_no}
use Rattle.chart.specs.Own.{compiled_ready}
use Rattle.lent.specs.Lent.{checked_none, checked_made}
use mathlib.Core.Bool.{not}
use mathlib.Core.Path.{ap}
use Rattle.lent.proofs.checking.check_session.Goals as goal

pub returns-then-not-check : goal.returns-then-not-check
returns-then-not-check c = checked_none _ _ _ (said_not_yes _ _ c.check.ensures (ap not c.if-not-check.true))

pub holds-requires : goal.holds-requires
holds-requires c = (compiled_ready _ _ (said_not_no _ _ c.check.ensures (ap not c.if-not-check.false))).ready

pub returns : goal.returns
returns c = checked_made _ _ _ (said_not_no _ _ c.check.ensures (ap not c.if-not-check.false)) _ c.holds.ensures
