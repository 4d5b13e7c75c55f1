use Rattle.session.specs.Posting.{ended_number, live_number}
use native.Mathlib.Omega.{arith}
use Rattle.lent.specs.Clocks.{clock_8, clock_9, clock_11, clock_14, clock_0, clock_lengths, record_length, join_asks}
use Rattle.lent.proofs.checked.clock_checked.Goals as goal

pub returns-then-not-checks : goal.returns-then-not-checks
returns-then-not-checks c = clock_8 _ _ _ _ _ _ _ _ c.requires c.if-not-checks.true

pub returns-then-not-checks-2 : goal.returns-then-not-checks-2
returns-then-not-checks-2 c = clock_9 _ _ _ _ _ _ _ _ c.requires c.if-not-checks.false c.if-not-checks-2.true

pub bounds-numbers-1030 : goal.bounds-numbers-1030
bounds-numbers-1030 c = let l = (clock_lengths _ _ _ _ _ _ 0 _ c.requires c.if-not-checks.false c.if-not-checks-2.false).numbers in omega arith

pub returns-in-Ended : goal.returns-in-Ended
returns-in-Ended c = clock_11 _ _ _ _ _ _ _ _ c.requires c.if-not-checks.false c.if-not-checks-2.false (ended_number _ _ c.from-mode.ensures c.in-Ended.is)

pub ticks_of-requires : goal.ticks_of-requires
ticks_of-requires c = record_length _ _ _ _ _ _ 0 _ c.requires c.if-not-checks.false c.if-not-checks-2.false

pub returns-then-ticks-ticks_of : goal.returns-then-ticks-ticks_of
returns-then-ticks-ticks_of c = clock_14 _ _ _ _ _ _ _ _ c.requires c.if-not-checks.false c.if-not-checks-2.false (live_number _ _ c.from-mode.ensures c.in_default.not-Ended) _ c.ticks_of.ensures c.if-ticks-ticks_of.true

pub bounds-numbers-1029 : goal.bounds-numbers-1029
bounds-numbers-1029 c = let l = (clock_lengths _ _ _ _ _ _ 0 _ c.requires c.if-not-checks.false c.if-not-checks-2.false).numbers in omega arith

pub join_due-waiting-requires : goal.join_due-waiting-requires
join_due-waiting-requires c = join_asks _ _ _ _ _ _ _ _ c.requires c.if-not-checks.false c.if-not-checks-2.false (live_number _ _ c.from-mode.ensures c.in_default.not-Ended) _ c.ticks_of.ensures c.if-ticks-ticks_of.false

pub bounds-numbers-1029-2 : goal.bounds-numbers-1029-2
bounds-numbers-1029-2 c = let l = (clock_lengths _ _ _ _ _ _ 0 _ c.requires c.if-not-checks.false c.if-not-checks-2.false).numbers in omega arith

pub returns : goal.returns
returns c = clock_0 _ _ _ _ _ _ _ _ c.requires c.if-not-checks.false c.if-not-checks-2.false (live_number _ _ c.from-mode.ensures c.in_default.not-Ended) _ c.ticks_of.ensures c.if-ticks-ticks_of.false _ _ _ c.join_due-waiting.ensures
