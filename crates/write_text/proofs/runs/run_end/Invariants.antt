use Rattle.write_text.specs.Runs.{Running}
use Rattle.write_text.proofs.runs.run_end.Given as goal

abbrev pub invariant-loop-e : goal.invariant-loop-e
invariant-loop-e l = Running l.numbers l.i l.t l.n l.e
