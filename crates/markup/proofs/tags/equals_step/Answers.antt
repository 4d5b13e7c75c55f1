use Rattle.std.proofs.Common.{arith}
use Rattle.std.proofs.lemmas.Bool.Decides.{nat_tests}
use mathlib.Core.Path.{sym}
use Rattle.grammar.specs.Grammar.{equals_step}
use Rattle.markup.proofs.tags.equals_step.Goals as goal

pub returns-then-space : goal.returns-then-space
unfolding equals_step
returns-then-space c = simp (sym c.is_space-space.ensures, c.if-space.true)

pub returns-then-equals : goal.returns-then-equals
unfolding equals_step
returns-then-equals c = grind (arith, nat_tests)

pub returns : goal.returns
unfolding equals_step
returns c = grind (arith, nat_tests)
