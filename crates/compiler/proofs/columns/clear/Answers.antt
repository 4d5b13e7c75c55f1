use Rattle.chart.specs.Writing.{filling_begin, filling_turn, filling_end}
use Rattle.definition.specs.Compiled.{words}
use Rattle.definition.specs.Rows.{nothing_at}
use mathlib.Core.Path.{ap}
use native.Mathlib.Omega.{arith}
use Rattle.compiler.proofs.columns.clear.Goals as goal

pub loop-i-init : goal.loop-i-init
loop-i-init c = filling_begin nothing_at _ _ c.requires

pub put_set-requires : goal.put_set-requires
put_set-requires c = omega arith

pub loop-i-preserved : goal.loop-i-preserved
loop-i-preserved c = let l = c.loop-i in filling_turn nothing_at _ l.i _ _ _ _ l.invariant (omega arith) (ap words c.empty.ensures) c.put_set.ensures

pub shape_of-sets : goal.shape_of-sets
shape_of-sets c = c.loop-i.invariant.size

pub returns : goal.returns
returns c = let l = c.loop-i in filling_end nothing_at _ l.i _ _ l.invariant (omega arith)
