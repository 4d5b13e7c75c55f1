use mathlib.Core.Path.{refl, ap}
use mathlib.Core.Bool.{not}
use Prim.Native.Nat.{◌*◌}
use native.Mathlib.Omega.{arith}
use Rattle.queue.specs.Queues.{named_slot, queue_long, unused_filled, unused_blank, unused_said}
use Rattle.laws.specs.Loops.{all_begin, all_turn, all_leave, all_done, said_not_yes, said_not_no}
use Rattle.queue.proofs.queue_fits.Goals as goal

pub returns-then-count-gt-MOST_QUEUED : goal.returns-then-count-gt-MOST_QUEUED
returns-then-count-gt-MOST_QUEUED c = queue_long _ _ c.requires (omega arith)

pub returns-then-not-is_blank : goal.returns-then-not-is_blank
returns-then-not-is_blank c =
    let a = c in
    unused_filled a.args.queue.now a.args.count a.requires (omega arith) (unused_said a.args.queue.now (a.args.count * 64) _ _ c.is_blank.ensures c.if-not-is_blank.true)

pub loop-k-init : goal.loop-k-init
loop-k-init c =
    let a = c in (
      omega arith,
      omega arith,
      a.requires,
      unused_said a.args.queue.now (a.args.count * 64) _ _ c.is_blank.ensures c.if-not-is_blank.false,
      all_begin _,
    )

pub returns-then-not-slot_names : goal.returns-then-not-slot_names
returns-then-not-slot_names c =
    let l = c.loop-k in
    unused_blank _ _ l.invariant.2 l.invariant.1 l.invariant.3 _
    (all_leave _ l.k _ _ (omega arith) refl
    (said_not_yes _ _ (named_slot _ l.k _ _ c.slot.ensures c.slot_names.ensures) (ap not c.if-not-slot_names.true)))

pub loop-k-preserved : goal.loop-k-preserved
loop-k-preserved c =
    let l = c.loop-k in (
      omega arith,
      l.invariant.1,
      l.invariant.2,
      l.invariant.3,
      all_turn _ l.k l.invariant.4 (said_not_no _ _ (named_slot _ l.k _ _ c.slot.ensures c.slot_names.ensures) (ap not c.if-not-slot_names.false)),
    )

pub returns : goal.returns
returns c =
    let l = c.loop-k in
    unused_blank _ _ l.invariant.2 l.invariant.1 l.invariant.3 _ (all_done _ l.k _ _ (omega arith) (omega arith) refl l.invariant.4)
