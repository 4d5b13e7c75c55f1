use Rattle.std.proofs.Common.{◌∙◌, rules}
use Rattle.rowset.specs.Rows.{rows_same}
use Rattle.rowset.proofs.RowSet.same.Goals as goal

pub returns : goal.returns
returns c =
    let a = c.args in
    c.eq.ensures ∙ rows_same a.self a.o (record { fit0 = search rules; fit1 = search rules; fit2 = search rules; fit3 = search rules })
    (record { fit0 = search rules; fit1 = search rules; fit2 = search rules; fit3 = search rules })
