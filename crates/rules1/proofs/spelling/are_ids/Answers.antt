use Rattle.std.proofs.Common.{refl, rules}
use Rattle.rules1.specs.Ids.{is_id_of}
use Rattle.rules1.specs.Ranged.{all_below}
use Rattle.rules1.proofs.spelling.are_ids.Goals as goal

pub returns : goal.returns
returns c = all_below (is_id_of c.args.numbers.now c.args.names.now) _ _ _ _ _ _ c.all.ensures.ran refl c.row_count.ensures (λ x q k. search rules) (λ x q k. search rules)
