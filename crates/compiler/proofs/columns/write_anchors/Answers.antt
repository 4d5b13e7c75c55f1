use Rattle.chart.specs.Writing.{filling_begin, filling_turn, filling_end}
use Rattle.definition.specs.Compiled.{words}
use mathlib.Core.Path.{ap}
use native.Mathlib.Omega.{arith}
use Rattle.compiler.proofs.columns.write_anchors.Goals as goal

pub loop-t-init : goal.loop-t-init
loop-t-init c = (c.transition_count-transitions.ensures, filling_begin _ _ _ c.requires.room)

pub anchors-requires : goal.anchors-requires
anchors-requires c = record { numbers_keep = c.requires.numbers_keep; inside = omega arith }

pub put_set-requires : goal.put_set-requires
put_set-requires c = omega arith

pub loop-t-preserved : goal.loop-t-preserved
loop-t-preserved c = let l = c.loop-t in (l.invariant.0, filling_turn _ _ l.t _ _ _ _ l.invariant.1 (omega arith) (ap words c.anchors.ensures) c.put_set.ensures)

pub shape_of-sets : goal.shape_of-sets
shape_of-sets c = c.loop-t.invariant.1.size

pub returns : goal.returns
returns c = let l = c.loop-t in filling_end _ _ l.t _ _ l.invariant.1 (omega arith)
