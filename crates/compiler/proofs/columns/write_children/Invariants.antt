use Rattle.compiler.specs.Upward.{children_below}
use Rattle.chart.specs.Writing.{Changing}
use Rattle.definition.specs.Tables.{row_count, chart_of}
use mathlib.Core.Path.{◌≡◌}
use Prim.Native.Nat.{◌≤◌}
use Rattle.compiler.proofs.columns.write_children.Given as goal

abbrev pub invariant-loop-i : goal.invariant-loop-i
invariant-loop-i l = (1 ≤ l.i) × (l.i ≤ l.rows) × (l.rows ≡ row_count l.numbers) × Changing (children_below (chart_of l.numbers) l.i) (row_count l.numbers) l.initial.sets l.sets
