use mathlib.Core.Path.{sym, ◌∙◌}
use Rattle.rules.specs.Lists.{lists_decide, targets_decide}
use Rattle.definition.specs.Tables.{chart_of}
use Rattle.rules.proofs.lists.lists_keep.Goals as goal

pub returns-then-not-lists_fit : goal.returns-then-not-lists_fit
returns-then-not-lists_fit c = lists_decide (chart_of _) (sym c.lists_fit.ensures ∙ c.if-not-lists_fit.true)

pub returns : goal.returns
returns c = targets_decide (chart_of _) _ (sym c.lists_fit.ensures ∙ c.if-not-lists_fit.false) c.all_targets_fit.ensures
