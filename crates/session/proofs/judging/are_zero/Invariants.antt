-- `are_zero`: what was put together is zero exactly if every byte was; the rest decides the rest.
use mathlib.Core.Path.{◌≡◌}
use mathlib.Core.Bool.{◌&&◌}
use Prim.Native.Nat.{◌-◌, ◌≤◌}
use lib.Dec.{eqb}
use lib.ListN.{length, drop}
use Rattle.definition.specs.Rows.{all}
use Rattle.session.proofs.judging.are_zero.Given as goal

abbrev pub invariant-loop-i : goal.invariant-loop-i
invariant-loop-i l = (l.i ≤ length l.words) × (all (eqb 0) l.words ≡ (eqb l.any 0 && all (eqb 0) (drop l.i l.words)))
