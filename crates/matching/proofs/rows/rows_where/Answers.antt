use Rattle.std.specs.Prelude.{◌≡◌, ℕ}
use Rattle.std.proofs.Common.{sym, ap, ◌∙◌, arith}
use Rattle.laws.specs.Loops.{those_begin, those_insert, those_skip}
use Rattle.rowset.specs.Member.{rows_of}
use Rattle.matching.proofs.rows.rows_where.Goals as goal
use Rattle.matching.proofs.rows.rows_where.Goals.{then-test, else-test}

pub loop-i-init : goal.loop-i-init
loop-i-init g c = (omega arith, λ p q. those_begin _ _ c.empty-set.ensures)

pub loop-i-preserved : goal.loop-i-preserved
loop-i-preserved g c = let v = c.loop-i.invariant in let l = c.loop-i-test.true in (
  omega arith,
  λ p q.
      let e = q _ _ l c.test.ensures in
      elim c.if-test.branch [
        | then-test w ↦ ap rows_of w.set-is ∙ those_insert _ _ _ _ (v.1 p q) w.with-set.ensures (sym e ∙ w.if-test.true)
        | else-test w ↦ ap rows_of w.set-is ∙ those_skip _ _ _ (v.1 p q) (sym e ∙ w.if-test.false)
      ],
)
