use mathlib.Core.Path.{sym, ap, ◌∙◌}
use Rattle.definition.specs.Chart.{is_history}
use Rattle.rules1.specs.Inside.{bare_row}
use Rattle.rules.specs.Lists.{bare_fits}
use Rattle.rules.proofs.lists.row_lists_fit.Goals as goal

pub returns-then-has_no_parts : goal.returns-then-has_no_parts
returns-then-has_no_parts c =
    bare_fits _ _ (bare_row _ _ (sym c.has_no_parts.ensures ∙ c.if-has_no_parts.true)) _
    (c.is_history.ensures ∙ ap is_history c.kind_of.ensures)
