-- `is_blank`: what was put together is zero exactly if every byte was; the rest decides the rest.
use mathlib.Core.Path.{refl}
use native.Mathlib.Omega.{arith}
use Rattle.names.specs.Blank.{blank_turn, blank_end}
use Rattle.names.proofs.slots.is_blank.Goals as goal

pub loop-b-init : goal.loop-b-init
loop-b-init c = (omega arith, refl)

pub loop-b-preserved : goal.loop-b-preserved
loop-b-preserved c = let l = c.loop-b in (omega arith, blank_turn _ l.any l.b-index c.loop-b-test.true l.invariant.1)

pub returns : goal.returns
returns c = let l = c.loop-b in blank_end _ l.any l.b-index c.loop-b-test.false l.invariant.1
