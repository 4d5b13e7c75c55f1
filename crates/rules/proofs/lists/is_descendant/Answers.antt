use mathlib.Core.Path.{ap, ◌∙◌}
use Rattle.rules.specs.Lists.{descendant_is}
use Rattle.rules3.specs.Ancestry.{set_mem}
use Rattle.definition.specs.Chart.{is_history}
use Rattle.definition.specs.Tables.{chart_of}
use Rattle.rules.proofs.lists.is_descendant.Goals as goal

pub returns : goal.returns
returns c =
    let over = set_mem _ _ _ _ c.requires.0 c.requires.1.below c.set_of.ensures in
    descendant_is (chart_of _) _ _ _ _ _ (c.is_history.ensures ∙ ap is_history c.kind_of.ensures) c.has.ensures over
