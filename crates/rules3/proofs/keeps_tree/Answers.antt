use mathlib.Core.Path.{sym, ◌∙◌}
use Rattle.rules3.specs.Parents.{parents_decide, tree_fits, filled_decide}
use Rattle.definition.specs.Tables.{chart_of}
use Rattle.rules3.proofs.keeps_tree.Goals as goal

pub returns-then-not-parents_fit : goal.returns-then-not-parents_fit
returns-then-not-parents_fit c = parents_decide (chart_of _) (sym c.parents_fit.ensures ∙ c.if-not-parents_fit.true)

pub are_filled-requires : goal.are_filled-requires
are_filled-requires c = tree_fits _ c.requires (sym c.parents_fit.ensures ∙ c.if-not-parents_fit.false)

pub returns : goal.returns
returns c = filled_decide (chart_of _) _ (sym c.parents_fit.ensures ∙ c.if-not-parents_fit.false) c.are_filled.ensures
