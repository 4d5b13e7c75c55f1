use Rattle.std.proofs.Common.{arith}
use Rattle.std.proofs.lemmas.Bool.Decides.{nat_tests}
use mathlib.Core.Path.{sym}
use Rattle.grammar.specs.Grammar.{content_step}
use Rattle.markup.proofs.tags.content_step.Goals as goal

pub returns-then-space : goal.returns-then-space
unfolding content_step
returns-then-space c = simp (sym c.is_space-space.ensures, c.if-space.true)

pub returns-then-less : goal.returns-then-less
unfolding content_step
returns-then-less c = grind (arith, nat_tests)

pub returns : goal.returns
unfolding content_step
returns c = grind (arith, nat_tests)
