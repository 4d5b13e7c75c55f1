use Rattle.rowset.specs.Rows.{rows_below}
use Rattle.rowset.proofs.RowSet.below.Goals as goal

pub returns : goal.returns
returns c =
    rows_below _ _ c.ones_below.ensures
    (rw (← c.saturating_sub.ensures) c.ones_below-2.ensures)
    (rw (← c.saturating_sub-2.ensures) c.ones_below-3.ensures)
    (rw (← c.saturating_sub-3.ensures) c.ones_below-4.ensures)
