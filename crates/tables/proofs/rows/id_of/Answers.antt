use borrow.Author.Rules.{rules}
use mathlib.Core.Path.{ap, ◌∙◌}
use Rattle.definition.specs.Tables.{id_at}
use Rattle.definition.specs.Rules.{optional_below}
use Rattle.tables.specs.Ranges.{row_fits, id_small}
use Rattle.tables.proofs.rows.id_of.Goals as goal

pub overflow_cast-result : goal.overflow_cast-result
overflow_cast-result c = let s = id_small _ _ c.requires in search rules

pub returns : goal.returns
unfolding id_at
returns c = let e = c.row_cell.ensures in record { is = e; low = ap (optional_below _) e ∙ (row_fits _ _ c.requires).id }
