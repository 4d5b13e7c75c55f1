use mathlib.Core.Path.{refl, ◌∙◌}
use Rattle.laws.specs.Loops.{said_not_yes, said_not_no}
use Rattle.chart.specs.Own.{compiled_ready}
use Rattle.session.specs.Calling.{places_session, start_bad_chart, start_bad_trace, start_is, start_trace}
use mathlib.Core.Bool.{not}
use mathlib.Core.Path.{ap}
use Rattle.session.proofs.Session.start.Goals as goal

pub returns-then-not-check : goal.returns-then-not-check
returns-then-not-check c =
    let k = said_not_yes _ _ c.check.ensures (ap not c.if-not-check.true) in
    (start_bad_chart _ _ _ k _ _ c.ended.ensures refl, start_bad_trace _ _ _ _ k)

pub start-begun-requires : goal.start-begun-requires
start-begun-requires c = (compiled_ready _ _ (said_not_no _ _ c.check.ensures (ap not c.if-not-check.false)), refl, refl, refl)

pub returns : goal.returns
returns c =
    let k = said_not_no _ _ c.check.ensures (ap not c.if-not-check.false) in
    let d = c.start-begun.ensures in
    (start_is _ _ _ k _ _ _ _ (c.of.ensures ∙ places_session _ _ _ _ d.state.0) d.state.1 d.answer d.count, start_trace _ _ _ k _ _ d.written)
