use Rattle.std.proofs.Common.{arith}
use Rattle.std.proofs.lemmas.Bool.Decides.{nat_tests}
use Rattle.markup.proofs.comments.inner_step.Goals as goal

pub returns-then-b-eq45 : goal.returns-then-b-eq45
returns-then-b-eq45 c = simp c.if-b-eq45.true

pub returns : goal.returns
returns c = grind (arith, nat_tests)
