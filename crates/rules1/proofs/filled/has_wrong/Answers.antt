use native.Mathlib.Omega.{arith}
use Rattle.rules1.specs.Filled.{right_begin, right_turn, right_done}
use Rattle.rules1.proofs.filled.has_wrong.Goals as goal

pub loop-j-init : goal.loop-j-init
loop-j-init c = (omega arith, right_begin _ _ _)

pub loop-j-preserved : goal.loop-j-preserved
loop-j-preserved c =
    let l = c.loop-j in
    (omega arith, right_turn _ _ l.j l.wrong _ l.invariant.1 c.is_wrong-wrong.ensures)

pub returns : goal.returns
returns c =
    let l = c.loop-j in
    right_done _ _ l.j l.wrong (omega arith) (omega arith) l.invariant.1
