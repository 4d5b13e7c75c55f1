-- `is_name`: one pass, as Spelling has it.
use mathlib.Core.Path.{◌≡◌}
use mathlib.Core.Bool.{true}
use Prim.Native.Nat.{◌≤◌}
use lib.Dec.{eqb}
use lib.ListN.{length, drop}
use Rattle.names.specs.Spelling.{spelt}
use Rattle.names.proofs.is_name.Given as goal

abbrev pub invariant-loop-b : goal.invariant-loop-b
invariant-loop-b l = (l.b-index ≤ length l.s) × (length l.s ≤ 63) × (spelt true l.s ≡ spelt (eqb l.last 46) (drop l.b-index l.s))
