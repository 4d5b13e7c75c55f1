use native.Mathlib.Omega.{arith}
use Rattle.values.specs.Trees.{hash_begin, hash_turn, hash_step, hash_done}
use Rattle.values.proofs.noted.hash_of.Goals as goal

pub loop-b-init : goal.loop-b-init
loop-b-init c = (omega arith, hash_begin _)

pub loop-b-preserved : goal.loop-b-preserved
loop-b-preserved c = (hash_step _ _, rw c.from.ensures (hash_turn _ _ _ c.loop-b-test.true c.loop-b.invariant.1))

pub returns : goal.returns
returns c = (hash_done c.args.name.now _ c.loop-b.b-index c.loop-b-test.false c.loop-b.invariant.1, c.loop-b.invariant.0)
