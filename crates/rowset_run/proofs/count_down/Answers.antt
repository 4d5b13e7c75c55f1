-- Each turn passes the row before, as the laws of visits say.
use Rattle.std.proofs.Common.{arith, refl, rules}
use Rattle.rowset.specs.Visits.{found_prev, prev_less, down_begin, down_turn, down_end}
use Rattle.rowset_run.specs.Count.{more}
use Rattle.rowset_run.proofs.count_down.Goals as goal

pub loop-r-init : goal.loop-r-init
loop-r-init c = (search rules, down_begin more 0 0 c.args.s 256 (omega arith) refl)

pub loop-r-smaller : goal.loop-r-smaller
loop-r-smaller c = prev_less _ _ _ c.in-Some.ensures _ refl

pub loop-r-preserved : goal.loop-r-preserved
loop-r-preserved c =
    let f = found_prev _ _ _ c.in-Some.ensures _ refl in
    (omega (arith, f.high, c.loop-r.invariant.0), down_turn more 0 _ _ _ _ _ _ c.loop-r.invariant.1 c.in-Some.ensures refl refl)

pub returns-in-None : goal.returns-in-None
returns-in-None c = down_end more 0 _ _ _ _ c.loop-r.invariant.1 c.in-None.ensures refl
