use Rattle.chart.specs.Writing.{Filling}
use Rattle.definition.specs.Tree.{anchors}
use Rattle.definition.specs.Tables.{transition_count, chart_of}
use mathlib.Core.Path.{◌≡◌}
use Rattle.compiler.proofs.columns.write_anchors.Given as goal

abbrev pub invariant-loop-t : goal.invariant-loop-t
invariant-loop-t l = (l.transitions ≡ transition_count l.numbers) × Filling (anchors (chart_of l.numbers)) (transition_count l.numbers) l.t l.initial.sets l.sets
