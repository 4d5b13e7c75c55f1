use mathlib.Core.Path.{◌≡◌}
use mathlib.Core.Bool.{true}
use Prim.Native.Nat.{◌-◌, ◌≤◌}
use Rattle.definition.specs.Rows.{all, from}
use Rattle.definition.specs.Rules.{parent_fits}
use Rattle.definition.specs.Tables.{chart_of}
use Rattle.rules3.proofs.parents_fit.Given as goal

abbrev pub invariant-loop-i : goal.invariant-loop-i
invariant-loop-i l = (l.i ≤ l.n) × (all (parent_fits (chart_of l.numbers)) (from l.i 0) ≡ true)
