use Rattle.std.proofs.Common.{arith}
use Rattle.std.proofs.lemmas.Bool.Decides.{nat_tests}
use Rattle.grammar.specs.Grammar.{less_step}
use Rattle.markup.proofs.tags.less_step.Goals as goal

pub returns-then-bang : goal.returns-then-bang
unfolding less_step
returns-then-bang c = simp c.if-bang.true

pub returns-then-ending : goal.returns-then-ending
unfolding less_step
returns-then-ending c = grind (arith, nat_tests)

pub returns : goal.returns
unfolding less_step
returns c = grind (arith, nat_tests)
