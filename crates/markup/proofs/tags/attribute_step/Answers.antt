use Rattle.std.proofs.Common.{arith}
use Rattle.std.proofs.lemmas.Bool.Decides.{nat_tests}
use Rattle.grammar.specs.Grammar.{attribute_step}
use Rattle.markup.proofs.tags.attribute_step.Goals as goal

pub returns-then-same : goal.returns-then-same
unfolding attribute_step
returns-then-same c = grind (arith, nat_tests)

pub returns-then-ended : goal.returns-then-ended
unfolding attribute_step
returns-then-ended c = grind (arith, nat_tests)

pub returns : goal.returns
unfolding attribute_step
returns c = grind (arith, nat_tests)
