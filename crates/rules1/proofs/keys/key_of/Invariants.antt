use mathlib.Core.Path.{◌≡◌}
use Prim.Native.Nat.{◌≤◌}
use Rattle.rules1.specs.Keys.{mixed_to}
use Rattle.rules1.proofs.keys.key_of.Given as goal

abbrev pub invariant-loop-j : goal.invariant-loop-j
invariant-loop-j l = (l.j ≤ 8) × (l.k ≡ mixed_to l.slot l.j)
