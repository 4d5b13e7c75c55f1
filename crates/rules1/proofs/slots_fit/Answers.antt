use Rattle.std.proofs.Common.{refl, rules}
use Rattle.definition.specs.Rules.{slot_fits}
use Rattle.laws.specs.Loops.{said-laws}
use Rattle.rules1.specs.Raises.{slot_judged}
use Rattle.rules1.specs.Ranged.{all_below}
use Rattle.rules1.proofs.slots_fit.Goals as goal

pub returns : goal.returns
returns c = all_below (slot_fits c.args.names.now) _ _ _ _ _ _ c.all.ensures.ran refl c.name_count.ensures (λ x q k. search (rules, said-laws, slot_judged)) (λ x q k. search (rules, said-laws, slot_judged))
