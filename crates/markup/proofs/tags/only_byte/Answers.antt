use Rattle.std.proofs.Common.{arith}
use Rattle.std.proofs.lemmas.Bool.Decides.{nat_tests}
use Rattle.grammar.specs.Grammar.{only}
use Rattle.markup.proofs.tags.only_byte.Goals as goal

pub returns-then-here : goal.returns-then-here
unfolding only
returns-then-here c = grind (arith, nat_tests)

pub returns : goal.returns
unfolding only
returns c = grind (arith, nat_tests)
