use mathlib.Core.Path.{◌≡◌}
use Prim.Native.Nat.{min}
use native.Mathlib.Omega.{arith}
use lib.Pow.{pow_pos}
use Rattle.rowset.specs.Bits.{one_shl}
use Rattle.rowset.proofs.words.ones_below.Goals as goal

pub overflow_sub-result : goal.overflow_sub-result
overflow_sub-result c = rw (one_shl c.args.k c.if-k-lt64.true) (pow_pos c.args.k)

pub returns-then-k-lt64 : goal.returns-then-k-lt64
returns-then-k-lt64 c = let m : min c.args.k 64 ≡ c.args.k = omega arith in rw (one_shl c.args.k c.if-k-lt64.true, m)

pub returns : goal.returns
returns c = let m : min c.args.k 64 ≡ 64 = omega arith in rw m
