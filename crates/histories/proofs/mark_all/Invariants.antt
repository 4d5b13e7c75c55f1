use Prim.Native.Nat.{◌≤◌}
use Rattle.definition.specs.Tables.{chart_of}
use Rattle.histories.specs.Places.{PutTo}
use Rattle.histories.proofs.mark_all.Given as goal

abbrev pub invariant-loop-i : goal.invariant-loop-i
invariant-loop-i l = (l.i ≤ l.n) × PutTo (chart_of l.chart) l.history l.marks l.i
