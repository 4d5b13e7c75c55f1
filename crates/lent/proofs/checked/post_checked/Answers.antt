use Rattle.session.specs.Posting.{ended_number, live_number}
use mathlib.Core.List.{[]}
use native.Mathlib.Omega.{arith}
use Rattle.laws.specs.Loops.{said_not_yes, said_not_no}
use Rattle.lent.specs.Posts.{slot_inside, post_lengths, post_8, post_9, post_6, post_11, post_7, post_0}
use mathlib.Core.Bool.{not}
use mathlib.Core.Path.{ap}
use Rattle.lent.proofs.checked.post_checked.Goals as goal

pub returns-then-not-checks : goal.returns-then-not-checks
returns-then-not-checks c = post_8 _ _ _ _ _ _ _ c.requires c.if-not-checks.true

pub returns-then-not-checks-2 : goal.returns-then-not-checks-2
returns-then-not-checks-2 c = post_9 _ _ _ _ _ _ _ c.requires c.if-not-checks.false c.if-not-checks-2.true

pub returns-then-not-is_name : goal.returns-then-not-is_name
returns-then-not-is_name c = post_6 _ _ _ _ _ _ _ c.requires c.if-not-checks.false c.if-not-checks-2.false (said_not_yes _ _ c.is_name.ensures (ap not c.if-not-is_name.true))

pub bounds-numbers-1030 : goal.bounds-numbers-1030
bounds-numbers-1030 c = let l = (post_lengths _ _ _ _ _ [] _ c.requires c.if-not-checks.false c.if-not-checks-2.false).numbers in omega arith

pub returns-in-Ended : goal.returns-in-Ended
returns-in-Ended c = post_11 _ _ _ _ _ _ _ c.requires c.if-not-checks.false c.if-not-checks-2.false (said_not_no _ _ c.is_name.ensures (ap not c.if-not-is_name.false)) (ended_number _ _ c.from-mode.ensures c.in-Ended.is)

pub bounds-numbers-1029 : goal.bounds-numbers-1029
bounds-numbers-1029 c = let l = (post_lengths _ _ _ _ _ [] _ c.requires c.if-not-checks.false c.if-not-checks-2.false).numbers in omega arith

pub returns-then-outer-ge-MOST_QUEUED : goal.returns-then-outer-ge-MOST_QUEUED
returns-then-outer-ge-MOST_QUEUED c = post_7 _ _ _ _ _ _ _ c.requires c.if-not-checks.false c.if-not-checks-2.false (said_not_no _ _ c.is_name.ensures (ap not c.if-not-is_name.false)) (live_number _ _ c.from-mode.ensures c.in_default.not-Ended) c.if-outer-ge-MOST_QUEUED.true

pub put_last-requires : goal.put_last-requires
put_last-requires c = slot_inside _ _ (post_lengths _ _ _ _ _ [] _ c.requires c.if-not-checks.false c.if-not-checks-2.false).external c.if-outer-ge-MOST_QUEUED.false

pub bounds-numbers-1029-2 : goal.bounds-numbers-1029-2
bounds-numbers-1029-2 c = let l = (post_lengths _ _ _ _ _ [] _ c.requires c.if-not-checks.false c.if-not-checks-2.false).numbers in omega arith

pub returns : goal.returns
returns c = post_0 _ _ _ _ _ _ _ c.requires c.if-not-checks.false c.if-not-checks-2.false (said_not_no _ _ c.is_name.ensures (ap not c.if-not-is_name.false)) (live_number _ _ c.from-mode.ensures c.in_default.not-Ended) _ c.if-outer-ge-MOST_QUEUED.false c.put_last.ensures
