use mathlib.Core.Path.{refl}
use native.Mathlib.Omega.{arith}
use lib.ListN.{length}
use Rattle.laws.specs.Loops.{failing_begin, failing_read_turn, failing_read_leave, failing_done}
use Rattle.selection.specs.FixedDomains.{targets_not, targets_if, history_row}
use Rattle.selection.proofs.domains.has_fixed_targets.Goals as goal

pub loop-i-init : goal.loop-i-init
loop-i-init c = failing_begin _ _ _ refl

pub row_at-x-requires : goal.row_at-x-requires
row_at-x-requires c = record { rows = c.targets_of-targets.ensures.within; below = c.loop-i-test.true }

pub kind_of-requires : goal.kind_of-requires
kind_of-requires c = c.row_at-x.ensures.row

pub returns-then-is_history : goal.returns-then-is_history
returns-then-is_history c = targets_not _ _ _ c.targets_of-targets.ensures.is (failing_read_leave _ _ _ _ _ _ _ c.loop-i.invariant c.loop-i-test.true refl c.row_at-x.ensures.is (history_row _ _ _ _ c.kind_of.ensures c.is_history.ensures) c.if-is_history.true)

pub loop-i-preserved : goal.loop-i-preserved
loop-i-preserved c = failing_read_turn _ _ _ _ _ _ c.loop-i.invariant c.loop-i-test.true c.row_at-x.ensures.is (history_row _ _ _ _ c.kind_of.ensures c.is_history.ensures) c.if-is_history.false

pub returns : goal.returns
returns c = let v = c.loop-i.invariant in let m = v.most in let l = c.loop-i-test.false in targets_if _ _ _ c.targets_of-targets.ensures.is (length c.targets_of-targets.result.now) (omega arith) (failing_done _ _ _ _ _ v l refl)
