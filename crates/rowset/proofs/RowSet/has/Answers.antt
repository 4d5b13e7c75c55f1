use native.Mathlib.Omega.{arith}
use Rattle.rowset.specs.Member.{bit, word_of}
use Rattle.rowset.specs.Rows.{has_in}
use Rattle.rowset.proofs.RowSet.has.Goals as goal

pub returns-then-k-lt64 : goal.returns-then-k-lt64
unfolding bit word_of
returns-then-k-lt64 c = has_in _ _ 0 _ (omega arith) (omega arith)

pub returns-then-k-lt128 : goal.returns-then-k-lt128
unfolding bit word_of
returns-then-k-lt128 c = has_in _ _ 1 _ (omega arith) (omega arith)

pub returns-then-k-lt192 : goal.returns-then-k-lt192
unfolding bit word_of
returns-then-k-lt192 c = has_in _ _ 2 _ (omega arith) (omega arith)

pub returns : goal.returns
unfolding bit word_of
returns c = has_in _ _ 3 _ (omega arith) (omega arith)
