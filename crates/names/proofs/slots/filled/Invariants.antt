-- `filled`: those counted, and those filled in the rest.
use mathlib.Core.Path.{◌≡◌}
use Prim.Native.Nat.{◌≤◌, ◌+◌}
use lib.ListN.{length, drop}
use Rattle.names.specs.Blank.{filled_in}
use Rattle.names.proofs.slots.filled.Given as goal

abbrev pub invariant-loop-b : goal.invariant-loop-b
invariant-loop-b l = (length l.slot ≡ 64) × (l.b-index ≤ 64) × (l.n ≤ l.b-index) × (filled_in l.slot ≡ l.n + filled_in (drop l.b-index l.slot))
