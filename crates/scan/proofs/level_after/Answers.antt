use Rattle.std.proofs.Common.{arith}
use Rattle.std.proofs.lemmas.Bool.Decides.{nat_tests}
use Rattle.grammar.specs.Grammar.{after}
use Rattle.scan.proofs.level_after.Goals as goal

pub returns-in-0 : goal.returns-in-0
unfolding after
returns-in-0 c = grind (arith, nat_tests)

pub returns-in-5 : goal.returns-in-5
unfolding after
returns-in-5 c = grind (arith, nat_tests)

pub returns-in-11 : goal.returns-in-11
unfolding after
returns-in-11 c = grind (arith, nat_tests)

pub returns-in_default : goal.returns-in_default
unfolding after
returns-in_default c = grind (arith, nat_tests)
