use Rattle.std.proofs.Common.{arith}
use Rattle.std.proofs.lemmas.Bool.Decides.{nat_tests}
use Rattle.grammar.specs.Grammar.{value_step_at}
use Rattle.markup.proofs.values.in_value.Goals as goal

pub returns-then-whole : goal.returns-then-whole
unfolding value_step_at
returns-then-whole c = grind (arith, nat_tests)

pub returns-then-quote : goal.returns-then-quote
unfolding value_step_at
returns-then-quote c = grind (arith, nat_tests)

pub returns-then-and : goal.returns-then-and
unfolding value_step_at
returns-then-and c = grind (arith, nat_tests)

pub returns : goal.returns
unfolding value_step_at
returns c = grind (arith, nat_tests)
