use Rattle.definition.specs.Rows.{meets}
use Rattle.rowset.proofs.RowSet.meets.Goals as goal

pub returns : goal.returns
unfolding meets
returns c = rw (c.is_empty.ensures, c.intersection.ensures)
