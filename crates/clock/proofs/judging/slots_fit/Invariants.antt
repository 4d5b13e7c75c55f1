use mathlib.Core.Path.{◌≡◌}
use mathlib.Core.Bool.{true}
use Prim.Native.Nat.{◌≤◌}
use lib.ListN.{length}
use Rattle.definition.specs.Rows.{all, from}
use lib.Dec.{eqb}
use lib.ListN.{drop}
use Prim.Native.Nat.{◌*◌}
use Rattle.clock.specs.Judging.{slot_fits_at}
use Rattle.clock.proofs.judging.slots_fit.Given as goal

abbrev pub invariant-loop-k : goal.invariant-loop-k
invariant-loop-k l = (l.k ≤ l.n) × (l.n ≤ 32) × (length l.slots ≡ 2048) × (all (eqb 0) (drop (l.n * 64) l.slots) ≡ true) × (all (slot_fits_at l.blanks l.slots) (from l.k 0) ≡ true)
