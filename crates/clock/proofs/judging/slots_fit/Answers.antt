use mathlib.Core.Path.{ap}
use mathlib.Core.Bool.{not}
use mathlib.Core.Path.{refl}
use native.Mathlib.Omega.{arith}
use Rattle.laws.specs.Loops.{all_begin, all_turn, all_leave, all_done, said_not_yes, said_not_no}
use Rattle.queue.specs.Queues.{unused_said}
use Prim.Native.Nat.{◌*◌}
use Rattle.clock.specs.Judging.{slots_filled, slots_tested, slot_tested}
use Rattle.clock.proofs.judging.slots_fit.Goals as goal

pub returns-then-not-is_blank : goal.returns-then-not-is_blank
returns-then-not-is_blank c = let a = c in slots_filled a.args.blanks a.args.slots.now a.args.n (unused_said a.args.slots.now (a.args.n * 64) _ _ c.is_blank.ensures c.if-not-is_blank.true)

pub loop-k-init : goal.loop-k-init
loop-k-init c = let a = c in (omega arith, a.requires.1, a.requires.0, unused_said a.args.slots.now (a.args.n * 64) _ _ c.is_blank.ensures c.if-not-is_blank.false, all_begin _)

pub returns-then-not-slot_fits : goal.returns-then-not-slot_fits
returns-then-not-slot_fits c = let l = c.loop-k in let a = c in slots_tested a.args.blanks a.args.slots.now a.args.n _ l.invariant.3 (all_leave _ l.k _ _ (omega arith) refl (said_not_yes _ _ (slot_tested a.args.blanks a.args.slots.now l.k _ _ c.slot.ensures c.slot_fits.ensures) (ap not c.if-not-slot_fits.true)))

pub loop-k-preserved : goal.loop-k-preserved
loop-k-preserved c = let l = c.loop-k in let a = c in (omega arith, l.invariant.1, l.invariant.2, l.invariant.3, all_turn _ l.k l.invariant.4 (said_not_no _ _ (slot_tested a.args.blanks a.args.slots.now l.k _ _ c.slot.ensures c.slot_fits.ensures) (ap not c.if-not-slot_fits.false)))

pub returns : goal.returns
returns c = let l = c.loop-k in let a = c in slots_tested a.args.blanks a.args.slots.now a.args.n _ l.invariant.3 (all_done _ l.k _ _ (omega arith) (omega arith) refl l.invariant.4)
