use Rattle.definition.specs.Rows.{subset}
use Rattle.rowset.proofs.RowSet.subset.Goals as goal

pub returns : goal.returns
unfolding subset
returns c = rw (c.is_empty.ensures, c.minus.ensures)
