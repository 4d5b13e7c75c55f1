use mathlib.Core.Path.{◌≡◌, refl, ap}
use Prim.Native.Nat.{ℕ, ◌-◌, ◌^◌, ◌<◌, min}
use native.Mathlib.Omega.{arith}
use lib.Bits.{bit_and, and_le_l}
use lib.Count.{leading_le}
use Rattle.rowset.specs.Bits.{high_found, high_missing, leading_small}
use Rattle.rowset.proofs.words.high_below.Goals as goal
use Rattle.rowset.proofs.words.high_below.Goals.{After-ones_below}

-- the bits of w below k
abbrev v : After-ones_below → ℕ
v c = bit_and c.args.w c.ones_below.result

masked : (c : After-ones_below) → v c ≡ bit_and c.args.w (2 ^ min c.args.k 64 - 1)
masked c = ap (bit_and c.args.w) c.ones_below.ensures

fits : (c : After-ones_below) → v c < 2 ^ 64
fits c = omega (arith, and_le_l c.args.w c.ones_below.result)

pub returns-then-v-eq0 : goal.returns-then-v-eq0
returns-then-v-eq0 c = high_missing c.args.w _ (v (goal.at.returns-then-v-eq0 c).After-ones_below) (masked (goal.at.returns-then-v-eq0 c).After-ones_below) c.if-v-eq0.true

pub overflow_cast-result : goal.overflow_cast-result
overflow_cast-result c = omega (arith, leading_le 64 (v (goal.at.overflow_cast-result c).After-ones_below))

pub overflow_sub-result : goal.overflow_sub-result
overflow_sub-result c = leading_small (v (goal.at.overflow_sub-result c).After-ones_below) (omega arith) (fits (goal.at.overflow_sub-result c).After-ones_below)

pub returns : goal.returns
returns c =
    high_found c.args.w _ (v (goal.at.returns c).After-ones_below) (masked (goal.at.returns c).After-ones_below) _ (omega arith) (fits (goal.at.returns c).After-ones_below) refl
