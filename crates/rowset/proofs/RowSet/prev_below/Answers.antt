use mathlib.Core.Path.{refl}
use native.Mathlib.Omega.{arith}
use Rattle.rowset.specs.Member.{word_of}
use Rattle.rowset.specs.Search.{Clear, clear_none, clear_top, down_past, down_found, down_nothing}
use Rattle.rowset.proofs.RowSet.prev_below.Goals as goal
use Rattle.rowset.proofs.RowSet.prev_below.Goals.{Joined-k-gt128, Joined-k-gt192, Joined-k-gt64, then-k-gt192+else-b-lt64, else-k-gt192, then-k-gt128+else-b-lt64-2, else-k-gt128, then-k-gt64+else-b-lt64-3, else-k-gt64}

-- no row from word 3 up to k
clear3 : (c : Joined-k-gt192) → Clear c.args.self 192 c.args.k
unfolding word_of
clear3 c =
    elim c.if-k-gt192.branch [
      | then-k-gt192+else-b-lt64 w ↦ down_past _ _ 3 _ _ _ (clear_top _ _) refl refl w.high_below-b.ensures w.if-b-lt64.false
      | else-k-gt192 w ↦ clear_none _ _ _ w.if-k-gt192.false
    ]

-- no row from word 2 up to k
clear2 : (c : Joined-k-gt128) → Clear c.args.self 128 c.args.k
unfolding word_of
clear2 c =
    elim c.if-k-gt128.branch [
      | then-k-gt128+else-b-lt64-2 w ↦ down_past _ _ 2 _ _ _ (clear3 c.before) refl refl w.high_below-b-then-k-gt128.ensures w.if-b-lt64-2.false
      | else-k-gt128 w ↦ clear_none _ _ _ w.if-k-gt128.false
    ]

-- no row from word 1 up to k
clear1 : (c : Joined-k-gt64) → Clear c.args.self 64 c.args.k
unfolding word_of
clear1 c =
    elim c.if-k-gt64.branch [
      | then-k-gt64+else-b-lt64-3 w ↦ down_past _ _ 1 _ _ _ (clear2 c.before) refl refl w.high_below-b-then-k-gt64.ensures w.if-b-lt64-3.false
      | else-k-gt64 w ↦ clear_none _ _ _ w.if-k-gt64.false
    ]

pub returns-then-b-lt64 : goal.returns-then-b-lt64
unfolding word_of
returns-then-b-lt64 c = down_found _ _ 3 _ _ _ (clear_top _ _) refl refl c.high_below-b.ensures c.if-b-lt64.true _ (omega arith)

pub returns-then-b-lt64-2 : goal.returns-then-b-lt64-2
unfolding word_of
returns-then-b-lt64-2 c = down_found _ _ 2 _ _ _ (clear3 (goal.at.returns-then-b-lt64-2 c).Joined-k-gt192) refl refl c.high_below-b-then-k-gt128.ensures c.if-b-lt64-2.true _ (omega arith)

pub returns-then-b-lt64-3 : goal.returns-then-b-lt64-3
unfolding word_of
returns-then-b-lt64-3 c = down_found _ _ 1 _ _ _ (clear2 (goal.at.returns-then-b-lt64-3 c).Joined-k-gt128) refl refl c.high_below-b-then-k-gt64.ensures c.if-b-lt64-3.true _ (omega arith)

pub returns-then-b-lt64-4 : goal.returns-then-b-lt64-4
unfolding word_of
returns-then-b-lt64-4 c = down_found _ _ 0 _ _ _ (clear1 (goal.at.returns-then-b-lt64-4 c).Joined-k-gt64) refl (omega arith) c.high_below-b-2.ensures c.if-b-lt64-4.true _ (omega arith)

pub returns : goal.returns
unfolding word_of
returns c = down_nothing _ _ _ (down_past _ _ 0 _ _ _ (clear1 (goal.at.returns c).Joined-k-gt64) refl (omega arith) c.high_below-b-2.ensures c.if-b-lt64-4.false) (omega arith)
