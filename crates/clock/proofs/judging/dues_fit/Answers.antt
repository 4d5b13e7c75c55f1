use mathlib.Core.Path.{refl}
use native.Mathlib.Omega.{arith}
use Rattle.laws.specs.Loops.{all_begin, all_turn, all_leave, all_done}
use Rattle.queue.specs.Queues.{unused_said}
use Prim.Native.Nat.{◌*◌}
use Rattle.clock.specs.Judging.{dues_filled, dues_tested, due_late, due_good}
use Rattle.clock.proofs.judging.dues_fit.Goals as goal

pub returns-then-not-is_blank : goal.returns-then-not-is_blank
returns-then-not-is_blank c = let a = c in dues_filled a.args.dues.now a.args.n a.args.most (unused_said a.args.dues.now (a.args.n * 8) _ _ c.is_blank.ensures c.if-not-is_blank.true)

pub loop-k-init : goal.loop-k-init
loop-k-init c = let a = c in (omega arith, a.requires.1, a.requires.0, unused_said a.args.dues.now (a.args.n * 8) _ _ c.is_blank.ensures c.if-not-is_blank.false, all_begin _)

pub returns-then-most-get_number : goal.returns-then-most-get_number
returns-then-most-get_number c = let l = c.loop-k in let a = c in dues_tested a.args.dues.now a.args.n a.args.most _ l.invariant.3 (all_leave _ l.k _ _ (omega arith) refl (due_late a.args.dues.now a.args.most l.k _ c.get_number.ensures (omega arith)))

pub loop-k-preserved : goal.loop-k-preserved
loop-k-preserved c = let l = c.loop-k in let a = c in (omega arith, l.invariant.1, l.invariant.2, l.invariant.3, all_turn _ l.k l.invariant.4 (due_good a.args.dues.now a.args.most l.k _ c.get_number.ensures (omega arith)))

pub returns : goal.returns
returns c = let l = c.loop-k in let a = c in dues_tested a.args.dues.now a.args.n a.args.most _ l.invariant.3 (all_done _ l.k _ _ (omega arith) (omega arith) refl l.invariant.4)
