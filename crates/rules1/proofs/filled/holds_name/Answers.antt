use Prim.Native.Nat.{◌*◌}
use native.Mathlib.Omega.{arith}
use Rattle.rules1.specs.Filled.{right_none, right_more, ahead_no, ahead_yes}
use Rattle.rules1.proofs.filled.holds_name.Goals as goal

pub returns-then-slot-last : goal.returns-then-slot-last
returns-then-slot-last c = ahead_no _ _

pub loop-q-init : goal.loop-q-init
loop-q-init c = (omega arith, right_none _)

pub returns-then-has_wrong : goal.returns-then-has_wrong
returns-then-has_wrong c = ahead_no _ _

pub loop-q-preserved : goal.loop-q-preserved
loop-q-preserved c =
    let l = c.loop-q in
    (omega arith, right_more _ l.q _ l.invariant.1 c.has_wrong.ensures c.if-has_wrong.false)

pub returns : goal.returns
returns c =
    let a = c in
    let l = c.loop-q in
    ahead_yes _ a.args.n (l.q * 16) a.requires.0 a.requires.1 a.requires.2 (omega arith) l.invariant.1 c.if-slot-last.false
