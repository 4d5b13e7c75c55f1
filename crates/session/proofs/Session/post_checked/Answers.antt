use native.Mathlib.Omega.{arith}
use Rattle.session.specs.Posting.{post_bad_session, post_no_name, post_ended, post_full, post_done, ended_number, live_number}
use Rattle.laws.specs.Loops.{said_not_yes, said_not_no}
use mathlib.Core.Bool.{not}
use mathlib.Core.Path.{ap}
use Rattle.session.proofs.Session.post_checked.Goals as goal

pub returns-then-not-is_session : goal.returns-then-not-is_session
returns-then-not-is_session c = post_bad_session _ _ _ (said_not_yes _ _ c.is_session.ensures (ap not c.if-not-is_session.true))

pub returns-then-not-is_name : goal.returns-then-not-is_name
returns-then-not-is_name c = post_no_name _ _ _ (said_not_no _ _ c.is_session.ensures (ap not c.if-not-is_session.false)) (said_not_yes _ _ c.is_name.ensures (ap not c.if-not-is_name.true))

pub returns-in-Ended : goal.returns-in-Ended
returns-in-Ended c = post_ended _ _ _ (said_not_no _ _ c.is_session.ensures (ap not c.if-not-is_session.false)) (said_not_no _ _ c.is_name.ensures (ap not c.if-not-is_name.false)) (ended_number _ _ c.from-mode.ensures c.in-Ended.is)

pub returns-then-external-ge-MOST_QUEUED : goal.returns-then-external-ge-MOST_QUEUED
returns-then-external-ge-MOST_QUEUED c = post_full _ _ _ (said_not_no _ _ c.is_session.ensures (ap not c.if-not-is_session.false)) (said_not_no _ _ c.is_name.ensures (ap not c.if-not-is_name.false)) (live_number _ _ c.from-mode.ensures c.in_default.not-Ended) c.if-external-ge-MOST_QUEUED.true

pub returns : goal.returns
returns c = post_done _ c.requires.sound _ (said_not_no _ _ c.is_session.ensures (ap not c.if-not-is_session.false)) _ _ (omega arith) c.put_name.ensures (said_not_no _ _ c.is_name.ensures (ap not c.if-not-is_name.false)) (live_number _ _ c.from-mode.ensures c.in_default.not-Ended)
