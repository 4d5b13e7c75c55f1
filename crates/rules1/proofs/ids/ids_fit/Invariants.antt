use mathlib.Core.Path.{◌≡◌}
use mathlib.Core.Bool.{true}
use Prim.Native.Nat.{◌≤◌}
use Rattle.definition.specs.Rows.{all, from}
use Rattle.rules1.specs.Ids.{is_new_id}
use Rattle.rules1.specs.Chains.{Seen}
use Rattle.rules1.proofs.ids.ids_fit.Given as goal

abbrev pub invariant-loop-i : goal.invariant-loop-i
invariant-loop-i l = (1 ≤ l.i) × (l.i ≤ l.n) × (all (is_new_id l.numbers l.names) (from l.i 0) ≡ true) × Seen l.numbers l.names l.heads l.links l.i
