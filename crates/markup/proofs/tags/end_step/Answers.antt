use Rattle.std.proofs.Common.{arith}
use Rattle.std.proofs.lemmas.Bool.Decides.{nat_tests}
use Rattle.grammar.specs.Grammar.{end_step}
use Rattle.markup.proofs.tags.end_step.Goals as goal

pub returns-then-same : goal.returns-then-same
unfolding end_step
returns-then-same c = grind (arith, nat_tests)

pub returns-then-ended : goal.returns-then-ended
unfolding end_step
returns-then-ended c = grind (arith, nat_tests)

pub returns : goal.returns
unfolding end_step
returns c = grind (arith, nat_tests)
