use Rattle.std.proofs.Common.{arith}
use Rattle.std.proofs.lemmas.Bool.Decides.{nat_tests}
use Rattle.grammar.specs.Grammar.{follows}
use Rattle.scan.proofs.goes_on.Goals as goal

pub returns-then-word_byte-b : goal.returns-then-word_byte-b
unfolding follows
returns-then-word_byte-b c = grind (arith, nat_tests)

pub returns-else-word_byte-b : goal.returns-else-word_byte-b
unfolding follows
returns-else-word_byte-b c = grind (arith, nat_tests)
