use Rattle.find.specs.Digits.{Reading}
use Rattle.find.proofs.decimal_of.Given as goal

abbrev pub invariant-loop-b : goal.invariant-loop-b
invariant-loop-b l = Reading l.most l.value l.n l.b-index
