use Rattle.laws.specs.Loops.{said_not_yes, said_not_no}
use native.Mathlib.Omega.{arith}
use Rattle.chart.specs.Own.{compiled_ready}
use Rattle.lent.specs.Lent.{checks_none, checks_neither, checks_made, known_lengths, checks_mode}
use mathlib.Core.Bool.{not}
use mathlib.Core.Path.{ap}
use Rattle.lent.proofs.checking.check.Goals as goal

pub returns-then-not-check : goal.returns-then-not-check
returns-then-not-check c = checks_none _ _ _ _ (said_not_yes _ _ c.check.ensures (ap not c.if-not-check.true))

pub holds-requires : goal.holds-requires
holds-requires c = (compiled_ready _ _ (said_not_no _ _ c.check.ensures (ap not c.if-not-check.false))).ready

pub returns-then-not-holds : goal.returns-then-not-holds
returns-then-not-holds c = checks_neither _ _ _ _ (said_not_no _ _ c.check.ensures (ap not c.if-not-check.false)) (said_not_yes _ _ c.holds.ensures (ap not c.if-not-holds.true))

pub returns : goal.returns
returns c = checks_made _ _ _ _ (said_not_no _ _ c.check.ensures (ap not c.if-not-check.false)) (said_not_no _ _ c.holds.ensures (ap not c.if-not-holds.false)) _ _ (checks_mode _ _ _ _ _ (said_not_no _ _ c.check.ensures (ap not c.if-not-check.false)) (said_not_no _ _ c.holds.ensures (ap not c.if-not-holds.false)) _ c.from-mode.ensures) c.is_clock.ensures

pub bounds-numbers-1030 : goal.bounds-numbers-1030
bounds-numbers-1030 c = let l = (known_lengths _ _ _ _ _ (said_not_no _ _ c.check.ensures (ap not c.if-not-check.false)) (said_not_no _ _ c.holds.ensures (ap not c.if-not-holds.false))).numbers in omega arith
