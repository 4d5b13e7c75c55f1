use Rattle.std.proofs.Common.{refl, rules}
use Rattle.definition.specs.Rules.{row_in_range}
use Rattle.rules1.specs.Ranged.{all_below}
use Rattle.rules1.proofs.sizes.rows_in_range.Goals as goal

pub returns : goal.returns
returns c = all_below (row_in_range c.args.numbers.now) _ _ _ _ _ _ c.all.ensures.ran refl c.row_count.ensures (λ x q k. search rules) (λ x q k. search rules)
