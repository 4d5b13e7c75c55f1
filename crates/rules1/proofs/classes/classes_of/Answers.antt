use mathlib.Core.Path.{◌≡◌}
use native.Mathlib.Omega.{arith}
use Rattle.rules1.specs.Classes.{classes_begin}
use Rattle.rules1.proofs.classes.classes_of.Goals as goal

pub loop-p-init : goal.loop-p-init
loop-p-init c = (omega arith, classes_begin _ _ c.requires.slots.tables.sized.counts.rows)

pub next_classes-class-requires : goal.next_classes-class-requires
next_classes-class-requires c = (c.requires, omega arith, c.loop-p.invariant.1)

pub loop-p-preserved : goal.loop-p-preserved
loop-p-preserved c = (omega arith, c.next_classes-class.ensures)

pub returns : goal.returns
returns c = let e : c.loop-p.p ≡ 52 = omega arith in rw e at c.loop-p.invariant.1
