use Rattle.markup.specs.Runs.{Went}
use Rattle.markup.proofs.runs.value_end.Given as goal

abbrev pub invariant-loop-j : goal.invariant-loop-j
invariant-loop-j l = Went l.text l.end l.e l.a l.q l.v l.i l.u l.j
