use Rattle.rules.specs.Lists.{under_is}
use Rattle.rules3.specs.Ancestry.{set_mem}
use Rattle.definition.specs.Tables.{chart_of}
use Rattle.rules.proofs.initial.is_under.Goals as goal

pub returns : goal.returns
returns c =
    let over = set_mem _ _ _ _ c.requires.0 c.requires.1.below c.set_of.ensures in
    under_is (chart_of _) _ _ _ _ c.has.ensures over
