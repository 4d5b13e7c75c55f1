use mathlib.Core.Path.{refl}
use Prim.Native.Nat.{◌/◌, ◌^◌}
use native.Mathlib.Omega.{arith}
use lib.Count.{trailing_le}
use Rattle.rowset.specs.Bits.{low_from, none_set}
use Rattle.rowset.proofs.words.low_from.Goals as goal

pub returns-then-w-eq0 : goal.returns-then-w-eq0
returns-then-w-eq0 c = none_set _ _ c.if-w-eq0.true (omega arith)

pub overflow_cast-t-2 : goal.overflow_cast-t-2
overflow_cast-t-2 c = omega (arith, trailing_le 64 (c.args.w / 2 ^ c.args.k))

pub overflow_add-k : goal.overflow_add-k
overflow_add-k c = omega (arith, trailing_le 64 (c.args.w / 2 ^ c.args.k))

pub returns-then-k-t-lt64 : goal.returns-then-k-t-lt64
returns-then-k-t-lt64 c = low_from c.args.w c.args.k _ _ refl (omega arith) (omega arith) (omega arith) (λ h. refl)

pub returns : goal.returns
returns c = low_from c.args.w c.args.k 64 _ refl (omega arith) (omega arith) c.if-k-t-lt64.false (λ h. absurd (omega arith))
