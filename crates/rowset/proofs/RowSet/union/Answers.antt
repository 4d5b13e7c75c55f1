use Rattle.rowset.specs.Rows.{rows_union}
use Rattle.rowset.proofs.RowSet.union.Goals as goal

pub returns : goal.returns
returns c = rows_union _ _
