use Rattle.std.proofs.Common.{refl, rules}
use borrow.Author.Tests.{tests}
use Rattle.definition.specs.Rules.{reference_in_range}
use Rattle.rules1.specs.Ranged.{all_below}
use Rattle.rules1.proofs.sizes.references_in_range.Goals as goal

pub returns : goal.returns
unfolding reference_in_range
returns c = all_below (reference_in_range c.args.numbers.now) _ _ _ _ _ _ c.all.ensures.ran refl c.reference_count.ensures (λ x q k. search (rules, tests)) (λ x q k. search (rules, tests))
