use mathlib.Core.Path.{ap, ◌∙◌}
use Rattle.definition.specs.Rows.{all}
use Rattle.definition.specs.Rules.{is_no_root}
use Rattle.definition.specs.Tables.{chart_of}
use Rattle.rules.specs.Apart.{few_apart}
use Rattle.rules.specs.Lists.{targets_roots}
use Rattle.rules.proofs.lists.targets_fit.Goals as goal

pub returns-then-targets-lt2 : goal.returns-then-targets-lt2
returns-then-targets-lt2 c = targets_roots (chart_of _) _ _ (few_apart (chart_of _) _ _ c.targets_of-targets.ensures.is c.if-targets-lt2.true) (c.no_roots.ensures ∙ ap (all (is_no_root (chart_of _))) c.targets_of-targets.ensures.is)
