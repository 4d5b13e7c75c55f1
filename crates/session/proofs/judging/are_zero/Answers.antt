-- `are_zero`: what was put together is zero exactly if every byte was; the rest decides the rest.
use mathlib.Core.Path.{refl}
use native.Mathlib.Omega.{arith}
use Rattle.names.specs.Blank.{blank_turn, blank_end}
use Rattle.session.proofs.judging.are_zero.Goals as goal

pub loop-i-init : goal.loop-i-init
loop-i-init c = (omega arith, refl)

pub loop-i-preserved : goal.loop-i-preserved
loop-i-preserved c = let l = c.loop-i in (omega arith, blank_turn _ l.any l.i c.loop-i-test.true l.invariant.1)

pub returns : goal.returns
returns c = let l = c.loop-i in blank_end _ l.any l.i c.loop-i-test.false l.invariant.1
