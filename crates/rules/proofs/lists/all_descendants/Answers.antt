use Rattle.std.proofs.Common.{rules}
use borrow.Author.Tests.{tests}
use Rattle.std.proofs.iter.Serving.{serving}
use Rattle.rules.proofs.Chains.{all_in, each_of}
use Rattle.rules.proofs.lists.all_descendants.Goals as goal

pub all-requires-clause-callable : goal.all-requires-clause-callable
all-requires-clause-callable c = grind (serving, each_of _ _ c.requires.1.low)

pub returns : goal.returns
returns c = all_in _ _ _ _ _ c.all.ensures.ran (cc) (λ x b q k. search (rules, tests))
