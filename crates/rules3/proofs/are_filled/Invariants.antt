use mathlib.Core.Path.{◌≡◌}
use mathlib.Core.Bool.{true}
use Prim.Native.Nat.{◌-◌, ◌≤◌}
use Rattle.definition.specs.Rows.{all, from}
use Rattle.rules3.specs.Parents.{is_filled}
use Rattle.definition.specs.Tables.{chart_of}
use Rattle.rules3.proofs.are_filled.Given as goal

abbrev pub invariant-loop-i : goal.invariant-loop-i
invariant-loop-i l = (l.i ≤ l.n) × (all (is_filled (chart_of l.numbers)) (from l.i 0) ≡ true)
