use borrow.Author.Rules.{rules}
use Rattle.rowset.specs.Rows.{rows_single}
use Rattle.rowset.proofs.RowSet.single.Goals as goal

pub returns : goal.returns
returns c =
    rows_single _ _ (search rules) c.placed.ensures c.placed-2.ensures c.placed-3.ensures
    c.placed-4.ensures
