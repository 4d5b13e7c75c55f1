use mathlib.Core.Path.{ap}
use mathlib.Core.Bool.{not}
use native.Mathlib.Omega.{arith}
use Rattle.onepass.specs.Four.{on_not, on_dot, on_other, on_inside}
use Rattle.onepass.proofs.all_go_on.Goals as goal

pub returns-then-not-agree : goal.returns-then-not-agree
returns-then-not-agree c = on_not _ _ _ _ _ c.agree.ensures (ap not c.if-not-agree.true)

pub no_star-requires : goal.no_star-requires
no_star-requires c =
    let pre = c.requires in
    let l = pre.1 in
    let n = on_inside _ _ _ _ _ c.agree.ensures (ap not c.if-not-agree.false) in
    (pre.0, omega arith)

pub returns-then-x-eq46 : goal.returns-then-x-eq46
returns-then-x-eq46 c = on_dot _ _ _ _ _ c.agree.ensures _ (ap not c.if-not-agree.false) c.if-x-eq46.true c.no_star.ensures

pub returns : goal.returns
returns c = on_other _ _ _ _ _ c.agree.ensures (ap not c.if-not-agree.false) c.if-x-eq46.false
