use mathlib.Core.Path.{refl}
use native.Mathlib.Omega.{arith}
use Rattle.rowset.specs.Member.{word_of}
use Rattle.rowset.specs.Search.{Clear, clear_none, up_past, up_found, up_nothing}
use Rattle.rowset.proofs.RowSet.next_from.Goals as goal
use Rattle.rowset.proofs.RowSet.next_from.Goals.{Joined-k-lt128, Joined-k-lt192, Joined-k-lt64, then-k-lt64+else-b-lt64, else-k-lt64, then-k-lt128+else-b-lt64-2, else-k-lt128, then-k-lt192+else-b-lt64-3, else-k-lt192}

-- no row from k up to word 1
clear1 : (c : Joined-k-lt64) → Clear c.args.self c.args.k 64
unfolding word_of
clear1 c =
    elim c.if-k-lt64.branch [
      | then-k-lt64+else-b-lt64 w ↦ up_past _ _ 0 _ _ _ (clear_none _ _ _ (omega arith)) refl (omega arith) w.low_from-b.ensures w.if-b-lt64.false
      | else-k-lt64 w ↦ clear_none _ _ _ w.if-k-lt64.false
    ]

-- no row from k up to word 2
clear2 : (c : Joined-k-lt128) → Clear c.args.self c.args.k 128
unfolding word_of
clear2 c =
    elim c.if-k-lt128.branch [
      | then-k-lt128+else-b-lt64-2 w ↦ up_past _ _ 1 _ _ _ (clear1 c.before) refl w.saturating_sub.ensures w.low_from-b-then-k-lt128.ensures w.if-b-lt64-2.false
      | else-k-lt128 w ↦ clear_none _ _ _ w.if-k-lt128.false
    ]

-- no row from k up to word 3
clear3 : (c : Joined-k-lt192) → Clear c.args.self c.args.k 192
unfolding word_of
clear3 c =
    elim c.if-k-lt192.branch [
      | then-k-lt192+else-b-lt64-3 w ↦ up_past _ _ 2 _ _ _ (clear2 c.before) refl w.saturating_sub-then-k-lt192.ensures w.low_from-b-then-k-lt192.ensures w.if-b-lt64-3.false
      | else-k-lt192 w ↦ clear_none _ _ _ w.if-k-lt192.false
    ]

pub returns-then-b-lt64 : goal.returns-then-b-lt64
unfolding word_of
returns-then-b-lt64 c = up_found _ _ 0 _ _ _ (clear_none _ _ _ (omega arith)) refl (omega arith) c.low_from-b.ensures c.if-b-lt64.true _ (omega arith)

pub returns-then-b-lt64-2 : goal.returns-then-b-lt64-2
unfolding word_of
returns-then-b-lt64-2 c = up_found _ _ 1 _ _ _ (clear1 (goal.at.returns-then-b-lt64-2 c).Joined-k-lt64) refl c.saturating_sub.ensures c.low_from-b-then-k-lt128.ensures c.if-b-lt64-2.true _ (omega arith)

pub returns-then-b-lt64-3 : goal.returns-then-b-lt64-3
unfolding word_of
returns-then-b-lt64-3 c = up_found _ _ 2 _ _ _ (clear2 (goal.at.returns-then-b-lt64-3 c).Joined-k-lt128) refl c.saturating_sub-then-k-lt192.ensures c.low_from-b-then-k-lt192.ensures c.if-b-lt64-3.true _ (omega arith)

pub returns-then-b-lt64-4 : goal.returns-then-b-lt64-4
unfolding word_of
returns-then-b-lt64-4 c = up_found _ _ 3 _ _ _ (clear3 (goal.at.returns-then-b-lt64-4 c).Joined-k-lt192) refl c.saturating_sub-then-k-lt256.ensures c.low_from-b-then-k-lt256.ensures c.if-b-lt64-4.true _ (omega arith)

pub returns-else-b-lt64-4 : goal.returns-else-b-lt64-4
unfolding word_of
returns-else-b-lt64-4 c = up_nothing _ _ _ (up_past _ _ 3 _ _ _ (clear3 (goal.at.returns-else-b-lt64-4 c).Joined-k-lt192) refl c.saturating_sub-then-k-lt256.ensures c.low_from-b-then-k-lt256.ensures c.if-b-lt64-4.false) (omega arith)

pub returns-else-k-lt256 : goal.returns-else-k-lt256
returns-else-k-lt256 c = up_nothing _ _ _ (clear_none _ _ _ c.if-k-lt256.false) (omega arith)
