use Rattle.std.proofs.Common.{arith}
use Rattle.std.proofs.lemmas.Bool.Decides.{nat_tests}
use mathlib.Core.Path.{sym}
use Rattle.grammar.specs.Grammar.{entity_step}
use Rattle.markup.proofs.values.entity_step.Goals as goal

pub returns-then-same : goal.returns-then-same
unfolding entity_step
returns-then-same c = grind (arith, nat_tests)

pub returns-then-ended : goal.returns-then-ended
unfolding entity_step
returns-then-ended c = simp (sym c.word_byte-expected.ensures, c.if-same.false, c.if-semicolon.true, c.if-ended.true)

pub returns-then-semicolon : goal.returns-then-semicolon
unfolding entity_step
returns-then-semicolon c = grind (arith, nat_tests)

pub returns : goal.returns
unfolding entity_step
returns c = grind (arith, nat_tests)
