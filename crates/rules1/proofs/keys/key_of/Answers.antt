use native.Mathlib.Omega.{arith}
use Rattle.rules1.specs.Keys.{mixed_begin, mixed_turn, mixed_done}
use Rattle.rules1.proofs.keys.key_of.Goals as goal

pub loop-j-init : goal.loop-j-init
loop-j-init c = (omega arith, mixed_begin _)

pub loop-j-preserved : goal.loop-j-preserved
loop-j-preserved c = (omega arith, mixed_turn _ c.loop-j.j _ _ _ c.loop-j.invariant.1 c.word_at.ensures c.mixed-k.ensures)

pub returns : goal.returns
returns c = (mixed_done _ c.loop-j.j _ _ (omega arith) (omega arith) c.loop-j.invariant.1 c.squeezed.ensures.0, c.squeezed.ensures.1)
