use mathlib.Core.Path.{sym, ap, ◌∙◌}
use Rattle.definition.specs.Rows.{is_empty, is_single}
use Rattle.rowset.specs.Rows.{ascends_rows}
use Rattle.rowset.specs.Search.{first_none, single_row}
use Rattle.rowset.proofs.RowSet.is_single.Goals as goal

pub returns-in-Some : goal.returns-in-Some
returns-in-Some c = c.is_empty.ensures ∙ ap is_empty c.without.ensures ∙
    single_row _ (ascends_rows _) _ (sym c.first.ensures ∙ c.in-Some.is)

pub returns-in-None : goal.returns-in-None
unfolding is_single
returns-in-None c = ap is_single (sym (first_none _ (sym c.first.ensures ∙ c.in-None.is)))
