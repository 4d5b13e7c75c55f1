use mathlib.Core.Path.{ap, ◌∙◌}
use Rattle.definition.specs.Tables.{kind_at, kind_of}
use Rattle.tables.proofs.rows.kind_of.Goals as goal

pub returns : goal.returns
unfolding kind_at
returns c = c.from.ensures ∙ ap kind_of c.row_cell.ensures
