use mathlib.Core.Path.{◌≡◌}
use mathlib.Core.Bool.{false}
use Prim.Native.Nat.{◌-◌, ◌≤◌}
use Rattle.definition.specs.Rows.{from, any}
use Rattle.match_bench.specs.Ways.{slot_matches}
use Rattle.match_bench.proofs.any_one_by_one.Given as goal

abbrev pub invariant-loop-k : goal.invariant-loop-k
invariant-loop-k l = (l.k ≤ 4) × (any (slot_matches l.slots l.event) (from l.k 0) ≡ false)
