use Rattle.std.proofs.Common.{arith}
use Rattle.std.proofs.lemmas.Bool.Decides.{nat_tests}
use Rattle.grammar.specs.Grammar.{value_step}
use Rattle.markup.proofs.values.value_step.Goals as goal

pub returns-then-less : goal.returns-then-less
unfolding value_step
returns-then-less c = simp (c.if-free.true, c.if-less.true)

pub returns-then-free : goal.returns-then-free
unfolding value_step
returns-then-free c = grind (arith, nat_tests)

pub returns : goal.returns
unfolding value_step
returns c = grind (arith, nat_tests)
