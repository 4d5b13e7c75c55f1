use Rattle.markup.specs.Runs.{Ran, in_comment}
use Rattle.markup.proofs.runs.comment_rest.Given as goal

abbrev pub invariant-loop-j : goal.invariant-loop-j
invariant-loop-j l = Ran in_comment l.text l.end l.i l.j
