use mathlib.Core.Path.{◌≡◌}
use mathlib.Core.Bool.{true}
use Prim.Native.Nat.{◌≤◌}
use lib.ListN.{length}
use Rattle.definition.specs.Rows.{all, from}
use lib.Dec.{eqb}
use lib.ListN.{drop}
use Prim.Native.Nat.{◌*◌}
use Rattle.clock.specs.Judging.{due_fits}
use Rattle.clock.proofs.judging.dues_fit.Given as goal

abbrev pub invariant-loop-k : goal.invariant-loop-k
invariant-loop-k l = (l.k ≤ l.n) × (l.n ≤ 32) × (length l.dues ≡ 256) × (all (eqb 0) (drop (l.n * 8) l.dues) ≡ true) × (all (due_fits l.dues l.most) (from l.k 0) ≡ true)
