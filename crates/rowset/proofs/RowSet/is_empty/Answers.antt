use borrow.Author.Rules.{rules}
use Rattle.rowset.specs.Rows.{rows_none}
use Rattle.rowset.proofs.RowSet.is_empty.Goals as goal

pub returns : goal.returns
returns c = rows_none _ (record { fit0 = search rules; fit1 = search rules; fit2 = search rules; fit3 = search rules })
