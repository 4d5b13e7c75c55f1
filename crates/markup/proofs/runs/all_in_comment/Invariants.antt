use Rattle.markup.specs.Runs.{Blocking, in_comment}
use Rattle.markup.proofs.runs.all_in_comment.Given as goal

abbrev pub invariant-loop-k : goal.invariant-loop-k
invariant-loop-k l = Blocking in_comment l.text l.end l.i 32 l.k l.all
