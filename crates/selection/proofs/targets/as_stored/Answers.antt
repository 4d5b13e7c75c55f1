use mathlib.Core.Path.{sym, ◌∙◌}
use Rattle.selection.specs.History.{as_nothing, as_stored_lem}
use Rattle.selection.proofs.targets.as_stored.Goals as goal

pub returns-then-is_empty : goal.returns-then-is_empty
returns-then-is_empty c = as_nothing _ (sym c.is_empty.ensures ∙ c.if-is_empty.true)

pub returns : goal.returns
returns c = as_stored_lem _ (sym c.is_empty.ensures ∙ c.if-is_empty.false)
