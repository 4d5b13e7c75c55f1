use Rattle.chart.specs.Writing.{Filling}
use Rattle.definition.specs.Rows.{nothing_at}
use Rattle.compiler.proofs.columns.clear.Given as goal

abbrev pub invariant-loop-i : goal.invariant-loop-i
invariant-loop-i l = Filling nothing_at l.n l.i l.initial.sets l.sets
