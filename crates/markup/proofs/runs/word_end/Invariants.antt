use Rattle.markup.specs.Runs.{Worded}
use Rattle.markup.proofs.runs.word_end.Given as goal

abbrev pub invariant-loop-j : goal.invariant-loop-j
invariant-loop-j l = Worded l.text l.end l.w l.k l.i l.n l.j
