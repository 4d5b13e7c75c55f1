use Rattle.rowset.specs.Member.{rows_of}
use Rattle.effects.specs.Blocks.{Branching}
use Rattle.effects.specs.Trace.{places}
use Rattle.effects.proofs.blocks.perform_rest.Given as goal

abbrev pub invariant-loop-k : goal.invariant-loop-k
invariant-loop-k l = Branching (rows_of l.active) l.block l.start (places l.initial.trace l.initial.joins) (places l.trace l.joins) l.initial.sum l.sum l.reach l.n l.k
