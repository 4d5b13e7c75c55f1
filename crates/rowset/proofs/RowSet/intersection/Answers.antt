use Rattle.rowset.specs.Rows.{rows_intersection}
use Rattle.rowset.proofs.RowSet.intersection.Goals as goal

pub returns : goal.returns
returns c = rows_intersection _ _
