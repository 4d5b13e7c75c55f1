use Rattle.std.proofs.Common.{rules}
use borrow.Author.Tests.{tests}
use Rattle.rules.proofs.Chains.{all_below}
use Rattle.rules.proofs.branches.transitions_branches_fit.Goals as goal

pub returns : goal.returns
returns c = all_below _ _ _ _ _ c.all.ensures.ran (cc) (λ x b q k. search (rules, tests))
