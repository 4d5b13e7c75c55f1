use native.Mathlib.Omega.{arith}
use Rattle.session.proofs.judging.are_many.Goals as goal

pub loop-h-init : goal.loop-h-init
loop-h-init c = (omega arith, c.requires.0, c.requires.1)

pub overflow_mul-h : goal.overflow_mul-h
overflow_mul-h c = omega arith

pub set_at-requires : goal.set_at-requires
set_at-requires c = record { inside = omega arith }

pub loop-h-preserved : goal.loop-h-preserved
loop-h-preserved c = let v = c.loop-h.invariant in (omega arith, v.1, v.2)
