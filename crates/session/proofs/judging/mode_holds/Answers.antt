use mathlib.Core.Path.{◌≡◌, ◌∙◌}
use native.Mathlib.Omega.{arith}
use Rattle.session.specs.Posting.{ended_number, live_number, running_number, resting_number, most_mode}
use Rattle.session.specs.Parts.{mode_ended, mode_unknown, mode_illegal, mode_running, mode_closing, legal_ready}
use Rattle.laws.specs.Loops.{said_not_yes, said_not_no}
use mathlib.Core.Bool.{not}
use mathlib.Core.Path.{ap}
use Rattle.session.proofs.judging.mode_holds.Goals as goal

pub returns-then-most-mode : goal.returns-then-most-mode
returns-then-most-mode c = let e = c.from-most.ensures ∙ most_mode in mode_unknown _ _ _ _ _ (omega arith)

pub returns-in-Ended : goal.returns-in-Ended
returns-in-Ended c = mode_ended _ _ _ _ _ _ (ended_number _ _ c.from-known.ensures c.in-Ended.is) c.is_empty.ensures

pub is_legal-requires : goal.is_legal-requires
is_legal-requires c = c.requires

pub returns-then-not-is_legal : goal.returns-then-not-is_legal
returns-then-not-is_legal c = mode_illegal _ _ _ _ _ (live_number _ _ c.from-known.ensures c.in_default.not-Ended) (said_not_yes _ _ c.is_legal.ensures (ap not c.if-not-is_legal.true))

pub has_final-closing-requires : goal.has_final-closing-requires
has_final-closing-requires c = legal_ready _ _ c.requires (said_not_no _ _ c.is_legal.ensures (ap not c.if-not-is_legal.false))

pub returns-in-Running : goal.returns-in-Running
returns-in-Running c = mode_running _ _ _ _ (said_not_no _ _ c.is_legal.ensures (ap not c.if-not-is_legal.false)) _ c.has_final-closing.ensures _ (running_number _ _ c.from-known.ensures c.in-Running.is)

pub returns : goal.returns
returns c =
    let e = c.from-most.ensures ∙ most_mode in
    mode_closing _ _ _ _ (said_not_no _ _ c.is_legal.ensures (ap not c.if-not-is_legal.false)) _ c.has_final-closing.ensures _
    (live_number _ _ c.from-known.ensures c.in_default.not-Ended) (resting_number _ _ c.from-known.ensures c.in_default-known.not-Running) (omega arith)
