-- `filled`: those counted, and those filled in the rest.
use Rattle.std.proofs.Common.{◌≡◌, ◌≤◌, ℕ, Bool, true, false, not, cond, eqb, get_or, arith}
use Rattle.std.specs.Int.{from_bool}
use Rattle.names.specs.Blank.{filled_turn, filled_end}
use Rattle.names.proofs.slots.filled.Goals as goal

counted : (z : Bool) (k : ℕ) → k ≡ from_bool (not z) → (k ≡ cond z 0 1) × (k ≤ 1)
counted true k e = (e, omega arith)
counted false k e = (e, omega arith)

pub loop-b-preserved : goal.loop-b-preserved
loop-b-preserved c =
    let s = c.args.slot.now in
    let l = c.loop-b in
    let u = counted (eqb (get_or s l.b-index 0) 0) _ c.from-n.ensures in
    (l.invariant.0, omega arith, omega arith, omega (arith, filled_turn s l.b-index c.loop-b-test.true))

pub returns : goal.returns
returns c = let e = c.from.ensures in omega (arith, filled_end c.args.slot.now c.loop-b.b-index c.loop-b-test.false)
