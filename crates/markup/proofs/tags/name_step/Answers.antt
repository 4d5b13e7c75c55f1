use Rattle.std.proofs.Common.{arith}
use Rattle.std.proofs.lemmas.Bool.Decides.{nat_tests}
use Rattle.grammar.specs.Grammar.{name_step_at}
use Rattle.markup.proofs.tags.name_step.Goals as goal

pub returns-then-same : goal.returns-then-same
unfolding name_step_at
returns-then-same c = grind (arith, nat_tests)

pub returns-then-ended : goal.returns-then-ended
unfolding name_step_at
returns-then-ended c = grind (arith, nat_tests)

pub returns : goal.returns
unfolding name_step_at
returns c = grind (arith, nat_tests)
