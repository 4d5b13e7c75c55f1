use Rattle.effects.specs.Blocks.{Plainly}
use Rattle.effects.specs.Trace.{places}
use Rattle.effects.proofs.blocks.perform_plain.Given as goal

abbrev pub invariant-loop-k : goal.invariant-loop-k
invariant-loop-k l = Plainly l.block (places l.initial.trace l.initial.joins) (places l.trace l.joins) l.initial.sum l.sum l.n l.k
