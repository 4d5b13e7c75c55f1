use mathlib.Core.Path.{◌∙◌}
use Rattle.laws.specs.Loops.{said_not_yes, said_not_no}
use Rattle.chart.specs.Own.{compiled_ready}
use Rattle.session.specs.Timing.{timed_session}
use Rattle.session.specs.Calling.{places_session, session_places, places_hold, record_holds, run_is, run_trace, run_bad_chart, bad_chart_trace, run_bad_session, bad_session_trace}
use mathlib.Core.Bool.{not}
use mathlib.Core.Path.{ap}
use Rattle.session.proofs.Session.run.Goals as goal

pub returns-then-not-check : goal.returns-then-not-check
returns-then-not-check c =
    let k = said_not_yes _ _ c.check.ensures (ap not c.if-not-check.true) in
    (c.refused.ensures ∙ run_bad_chart _ _ _ _ _ _ k, bad_chart_trace _ _ _ _ _ _ _ k)

pub is_timed-requires : goal.is_timed-requires
is_timed-requires c = (compiled_ready _ _ (said_not_no _ _ c.check.ensures (ap not c.if-not-check.false))).ready

pub returns-then-not-is_timed : goal.returns-then-not-is_timed
returns-then-not-is_timed c =
    let k = said_not_no _ _ c.check.ensures (ap not c.if-not-check.false) in
    let h = said_not_yes _ _ c.is_timed.ensures (ap not c.if-not-is_timed.true) in
    (c.refused-then-not-is_timed.ensures ∙ run_bad_session _ _ _ _ _ _ k h, bad_session_trace _ _ _ _ _ _ _ k h)

pub run-done-requires : goal.run-done-requires
run-done-requires c =
    let k = said_not_no _ _ c.check.ensures (ap not c.if-not-check.false) in
    let h = said_not_no _ _ c.is_timed.ensures (ap not c.if-not-is_timed.false) in
    let g = compiled_ready _ _ k in
    let w = session_places _ g.ready.sound _ (timed_session _ _ _ h) _ c.numbers-numbers.ensures in
    (g, places_hold _ _ _ _ k h _ _ _ w, record_holds _ _ _ _ k h _ _ _ w)

pub returns : goal.returns
returns c =
    let k = said_not_no _ _ c.check.ensures (ap not c.if-not-check.false) in
    let h = said_not_no _ _ c.is_timed.ensures (ap not c.if-not-is_timed.false) in
    let w = session_places _ (compiled_ready _ _ k).ready.sound _ (timed_session _ _ _ h) _ c.numbers-numbers.ensures in
    let d = c.run-done.ensures in
    (run_is _ _ _ _ k h _ _ _ w _ _ _ _ _ _ _ (c.of.ensures ∙ places_session _ _ _ _ d.state.0) d.state.1 d.status d.rounds d.count, run_trace _ _ _ _ k h _ _ _ w _ _ _ _ d.written)
