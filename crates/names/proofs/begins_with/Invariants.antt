-- `begins_with`: as long as the bytes agree, the rest of both decides.
use mathlib.Core.Path.{◌≡◌}
use Prim.Native.Nat.{◌≤◌, ◌-◌}
use lib.ListN.{length, drop}
use Rattle.names.specs.Matching.{stops}
use Rattle.names.proofs.begins_with.Given as goal

abbrev pub invariant-loop-i : goal.invariant-loop-i
invariant-loop-i l = (l.i ≤ length l.descriptor) × (l.i ≤ length l.event) × (stops l.descriptor l.event ≡ stops (drop l.i l.descriptor) (drop l.i l.event))
