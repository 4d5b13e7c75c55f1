use native.Mathlib.Omega.{arith}
use Rattle.rowset.specs.Setting.{with0, with1, with2, with3}
use Rattle.rowset.proofs.RowSet.with.Goals as goal

-- src/lib.rt:94:13
pub returns-then-k-lt64 : goal.returns-then-k-lt64
returns-then-k-lt64 c = with0 _ _ c.if-k-lt64.true

-- src/lib.rt:102:13
pub returns-then-k-lt128 : goal.returns-then-k-lt128
returns-then-k-lt128 c = with1 _ _ (omega arith) c.if-k-lt128.true

-- src/lib.rt:110:13
pub returns-then-k-lt192 : goal.returns-then-k-lt192
returns-then-k-lt192 c = with2 _ _ (omega arith) c.if-k-lt192.true

-- src/lib.rt:89:5
pub returns : goal.returns
returns c = with3 _ _ (omega arith) (omega arith)
