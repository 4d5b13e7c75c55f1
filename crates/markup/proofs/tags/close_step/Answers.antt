use Rattle.std.proofs.Common.{arith}
use Rattle.std.proofs.lemmas.Bool.Decides.{nat_tests}
use mathlib.Core.Path.{sym}
use Rattle.grammar.specs.Grammar.{close_step}
use Rattle.markup.proofs.tags.close_step.Goals as goal

pub returns-then-space : goal.returns-then-space
unfolding close_step
returns-then-space c = simp (sym c.is_space-space.ensures, c.if-space.true)

pub returns-then-greater : goal.returns-then-greater
unfolding close_step
returns-then-greater c = grind (arith, nat_tests)

pub returns : goal.returns
unfolding close_step
returns c = grind (arith, nat_tests)
