use Rattle.laws.specs.Loops.{said_not_yes, said_not_no}
use Rattle.session.specs.Posting.{ended_number, live_number}
use Rattle.session.specs.Clocking.{clock_bad_session, clock_ended, clock_back, clock_asks, clock_done}
use mathlib.Core.Bool.{not}
use mathlib.Core.Path.{ap}
use Rattle.session.proofs.clocking.clock_checked.Goals as goal

pub returns-then-not-is_timed : goal.returns-then-not-is_timed
returns-then-not-is_timed c = clock_bad_session _ _ _ _ (said_not_yes _ _ c.is_timed.ensures (ap not c.if-not-is_timed.true))

pub returns-in-Ended : goal.returns-in-Ended
returns-in-Ended c = clock_ended _ _ _ _ (said_not_no _ _ c.is_timed.ensures (ap not c.if-not-is_timed.false)) (ended_number _ _ c.from-mode.ensures c.in-Ended.is)

pub returns-then-ticks-ticks_of : goal.returns-then-ticks-ticks_of
returns-then-ticks-ticks_of c = clock_back _ _ _ _ (said_not_no _ _ c.is_timed.ensures (ap not c.if-not-is_timed.false)) (live_number _ _ c.from-mode.ensures c.in_default.not-Ended) _ c.ticks_of.ensures c.if-ticks-ticks_of.true

pub join-requires : goal.join-requires
join-requires c = clock_asks _ _ _ _ (said_not_no _ _ c.is_timed.ensures (ap not c.if-not-is_timed.false)) (live_number _ _ c.from-mode.ensures c.in_default.not-Ended) _ c.ticks_of.ensures c.requires.sound c.if-ticks-ticks_of.false

pub returns : goal.returns
returns c = clock_done _ _ _ _ (said_not_no _ _ c.is_timed.ensures (ap not c.if-not-is_timed.false)) (live_number _ _ c.from-mode.ensures c.in_default.not-Ended) _ c.ticks_of.ensures c.requires.sound c.if-ticks-ticks_of.false _ _ _ c.join.ensures
