use mathlib.Core.Path.{ap}
use mathlib.Core.Bool.{not}
use borrow.Author.Rules.{rules}
use native.Mathlib.Omega.{arith}
use Rattle.clock.specs.Judged.{wrong_size, too_many, too_late, pends_ended, dues_wrong, events_wrong, ids_said}
use Rattle.clock.proofs.judging.is_clock.Goals as goal

pub returns-then-clock-ne-CLOCK : goal.returns-then-clock-ne-CLOCK
returns-then-clock-ne-CLOCK c = let a = c in wrong_size a.args.mode a.args.clock.now (search rules)

pub returns-then-n-gt-MOST_PENDING : goal.returns-then-n-gt-MOST_PENDING
returns-then-n-gt-MOST_PENDING c = let a = c in too_many a.args.mode a.args.clock.now _ c.count_of-n.ensures (omega arith)

pub returns-then-ticks-gt-MOST_TICKS : goal.returns-then-ticks-gt-MOST_TICKS
returns-then-ticks-gt-MOST_TICKS c = let a = c in too_late a.args.mode a.args.clock.now _ c.ticks_of-ticks.ensures (omega arith)

pub returns-then-not-may_pend : goal.returns-then-not-may_pend
returns-then-not-may_pend c = let a = c in pends_ended a.args.mode a.args.clock.now _ _ c.count_of-n.ensures c.may_pend.ensures (ap not c.if-not-may_pend.true)

pub returns-then-not-dues_fit : goal.returns-then-not-dues_fit
returns-then-not-dues_fit c = let a = c in dues_wrong a.args.mode a.args.clock.now _ _ _ c.count_of-n.ensures c.ticks_of-ticks.ensures c.dues_fit.ensures (ap not c.if-not-dues_fit.true)

pub returns-then-not-slots_fit : goal.returns-then-not-slots_fit
returns-then-not-slots_fit c = let a = c in events_wrong a.args.mode a.args.clock.now _ _ c.count_of-n.ensures c.slots_fit.ensures (ap not c.if-not-slots_fit.true)

pub returns : goal.returns
returns c =
    let a = c in
    ids_said a.args.mode a.args.clock.now (λ k. omega (arith, c.type_inv.clock k)) (search rules) _ _ _ _ _ _ c.count_of-n.ensures c.ticks_of-ticks.ensures (omega arith) (omega arith)
    c.may_pend.ensures (ap not c.if-not-may_pend.false) c.dues_fit.ensures (ap not c.if-not-dues_fit.false) c.slots_fit.ensures (ap not c.if-not-slots_fit.false) c.slots_fit-2.ensures
