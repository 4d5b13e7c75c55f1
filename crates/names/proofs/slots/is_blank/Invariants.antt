-- `is_blank`: what was put together is zero exactly if every byte was; the rest decides the rest.
use mathlib.Core.Path.{◌≡◌}
use mathlib.Core.Bool.{◌&&◌}
use Prim.Native.Nat.{◌≤◌}
use lib.Dec.{eqb}
use lib.ListN.{length, drop}
use Rattle.definition.specs.Rows.{all}
use Rattle.names.proofs.slots.is_blank.Given as goal

abbrev pub invariant-loop-b : goal.invariant-loop-b
invariant-loop-b l = (l.b-index ≤ length l.s) × (all (eqb 0) l.s ≡ (eqb l.any 0 && all (eqb 0) (drop l.b-index l.s)))
