use Rattle.rowset.specs.Visits.{prev_less}
use Rattle.rowset.proofs.rows.RowsDownIterator.next.Goals as goal

pub returns-clause-goes : goal.returns-clause-goes
returns-clause-goes c =
    let l = prev_less c.args.self.now.set _ c.prev_below.result c.prev_below.ensures c.in_ok-r.r c.in_ok-r.was in
    record { on = λ f. (tt, f, rw c.from-self.ensures l); keeps = tt; rests = λ f. tt }
