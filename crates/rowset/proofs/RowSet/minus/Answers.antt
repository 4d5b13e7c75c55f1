use Rattle.rowset.specs.Rows.{rows_minus}
use Rattle.rowset.proofs.RowSet.minus.Goals as goal

pub returns : goal.returns
returns c = rows_minus _ _
