use Prim.Native.Nat.{◌%◌}
use native.Mathlib.Nat.{add-zero}
use native.Mathlib.Omega.{arith}
use borrow.Author.Tests.{eq-eqb, ne_eqb}
use Rattle.definition.specs.Compiled.{word}
use Rattle.rowset.specs.Bits.{one_shl}
use Rattle.rowset.proofs.words.placed.Goals as goal

pub returns-then-k-q : goal.returns-then-k-q
unfolding word
returns-then-k-q c = rw (one_shl (c.args.k % 64) (omega arith), eq-eqb _ _ c.if-k-q.true, add-zero)

pub returns : goal.returns
unfolding word
returns c = rw (ne_eqb _ _ c.if-k-q.false)
