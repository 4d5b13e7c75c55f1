use Rattle.std.proofs.Common.{arith}
use Rattle.std.proofs.lemmas.Bool.Decides.{nat_tests}
use Rattle.grammar.specs.Grammar.{value_at}
use Rattle.markup.proofs.values.value_at.Goals as goal

pub returns-then-none : goal.returns-then-none
unfolding value_at
returns-then-none c = simp c.if-none.true

pub returns : goal.returns
unfolding value_at
returns c = grind (arith, nat_tests)
