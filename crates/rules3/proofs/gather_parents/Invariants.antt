use Prim.Native.Nat.{◌-◌, ◌≤◌}
use Rattle.rules3.specs.Parents.{Marks}
use Rattle.definition.specs.Tree.{is_child}
use Rattle.definition.specs.Rules.{is_history_of}
use Rattle.definition.specs.Tables.{chart_of}
use Rattle.rules3.proofs.gather_parents.Given as goal

abbrev pub invariant-loop-i : goal.invariant-loop-i
invariant-loop-i l = (1 ≤ l.i) × (l.i ≤ l.n) × Marks (is_child (chart_of l.numbers)) l.i l.children × Marks (is_history_of (chart_of l.numbers)) l.i l.histories
