use Rattle.rowset.specs.Visits.{next_less}
use Rattle.rowset.proofs.rows.RowsIterator.next.Goals as goal

pub returns-clause-goes : goal.returns-clause-goes
returns-clause-goes c =
    let l = next_less c.args.self.now.set _ c.next_from.result c.next_from.ensures c.in_ok-r.r c.in_ok-r.was in
    record { on = λ f. (tt, f, rw c.row_after-self.ensures l); keeps = tt; rests = λ f. tt }
