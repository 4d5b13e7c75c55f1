use Prim.Native.Nat.{◌-◌}
use Rattle.write_text.specs.Runs.{Writing}
use Rattle.write_text.proofs.runs.lay_transitions.Given as goal

abbrev pub invariant-loop-k : goal.invariant-loop-k
invariant-loop-k l = Writing l.numbers l.names l.t l.end l.initial.out l.at l.out l.next l.k
