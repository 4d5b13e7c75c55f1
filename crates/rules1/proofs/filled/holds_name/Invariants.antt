use mathlib.Core.Bool.{false}
use Prim.Native.Nat.{◌*◌, ◌≤◌}
use Rattle.rules1.specs.Filled.{Right}
use Rattle.rules1.proofs.filled.holds_name.Given as goal

abbrev pub invariant-loop-q : goal.invariant-loop-q
invariant-loop-q l = (l.q ≤ 3) × Right l.slot 0 (l.q * 16) false
