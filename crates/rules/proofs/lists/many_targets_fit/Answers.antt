use mathlib.Core.Path.{ap, ◌∙◌}
use Rattle.rules.specs.Lists.{targets_apart_no, targets_roots}
use Rattle.laws.specs.Loops.{told}
use Rattle.definition.specs.Rules.{are_apart, is_no_root}
use Rattle.definition.specs.Rows.{all}
use Rattle.definition.specs.Tables.{chart_of}
use Rattle.rules.proofs.lists.many_targets_fit.Goals as goal

pub returns-then-not-are_apart : goal.returns-then-not-are_apart
returns-then-not-are_apart c = targets_apart_no (chart_of _) _ (told (are_apart (chart_of _)) _ _ _ _ c.targets_of-targets.ensures.is c.are_apart.ensures c.if-not-are_apart.true)

pub returns : goal.returns
returns c = targets_roots (chart_of _) _ _ (told (are_apart (chart_of _)) _ _ _ _ c.targets_of-targets.ensures.is c.are_apart.ensures c.if-not-are_apart.false) (c.no_roots.ensures ∙ ap (all (is_no_root (chart_of _))) c.targets_of-targets.ensures.is)
