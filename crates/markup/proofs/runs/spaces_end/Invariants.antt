use Rattle.grammar.specs.Grammar.{is_space}
use Rattle.markup.specs.Runs.{Ran}
use Rattle.markup.proofs.runs.spaces_end.Given as goal

abbrev pub invariant-loop-j : goal.invariant-loop-j
invariant-loop-j l = Ran is_space l.text l.end l.i l.j
