use Rattle.std.proofs.Common.{arith}
use Rattle.std.proofs.lemmas.Bool.Decides.{nat_tests}
use Rattle.grammar.specs.Grammar.{only}
use Rattle.markup.proofs.comments.dashes_step.Goals as goal

pub returns-then-b-eq62 : goal.returns-then-b-eq62
unfolding only
returns-then-b-eq62 c = simp c.if-b-eq62.true

pub returns : goal.returns
unfolding only
returns c = grind (arith, nat_tests)
