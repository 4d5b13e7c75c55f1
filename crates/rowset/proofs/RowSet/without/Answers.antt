use mathlib.Core.Path.{ap, ◌∙◌}
use Rattle.definition.specs.Rows.{minus}
use Rattle.rowset.proofs.RowSet.without.Goals as goal

pub returns : goal.returns
returns c = c.minus.ensures ∙ ap (minus _) c.single.ensures
