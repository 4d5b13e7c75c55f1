use Rattle.std.proofs.Common.{arith}
use Rattle.std.proofs.lemmas.Bool.Decides.{nat_tests}
use Rattle.grammar.specs.Grammar.{name_at}
use Rattle.markup.proofs.tags.name_at.Goals as goal

pub returns-then-none : goal.returns-then-none
unfolding name_at
returns-then-none c = simp c.if-none.true

pub returns : goal.returns
unfolding name_at
returns c = grind (arith, nat_tests)
