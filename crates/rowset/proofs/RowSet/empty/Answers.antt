use Rattle.rowset.specs.Rows.{rows_empty}
use Rattle.rowset.proofs.RowSet.empty.Goals as goal

pub returns : goal.returns
returns c = rows_empty
