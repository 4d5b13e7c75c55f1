use mathlib.Core.Path.{◌≡◌}
use Prim.Native.Nat.{◌-◌, ◌≤◌}
use Rattle.definition.specs.Tree.{ancestors}
use Rattle.definition.specs.Tables.{row_count, chart_of}
use Rattle.chart.specs.Writing.{Filling}
use Rattle.rules3.proofs.write_ancestors.Given as goal

abbrev pub invariant-loop-i : goal.invariant-loop-i
invariant-loop-i l = (1 ≤ l.i) × (l.n ≡ row_count l.numbers) × Filling (ancestors (chart_of l.numbers)) (row_count l.numbers) l.i l.initial.sets l.sets
