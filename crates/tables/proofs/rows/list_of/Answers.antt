use borrow.Author.Rules.{rules}
use native.Mathlib.Omega.{arith}
use Rattle.definition.specs.Tables.{list_at, references_at}
use Rattle.tables.specs.Parts.{listed_as}
use Rattle.tables.specs.Ranges.{row_fits}
use Rattle.tables.proofs.rows.list_of.Goals as goal

pub references_part-requires : goal.references_part-requires
references_part-requires c = let f = row_fits _ _ c.requires in search rules

pub returns : goal.returns
unfolding list_at
returns c = let f = row_fits _ _ c.requires in listed_as _ (references_at _) _ _ _ _ _ _ c.row_cell-start.ensures c.row_cell-count.ensures (let l = f.list in omega arith) c.references_part.ensures
