-- Each turn passes the next row, as the laws of visits say.
use Rattle.std.proofs.Common.{arith, refl, rules}
use Rattle.rowset.specs.Visits.{found_next, next_less, visit_begin, visit_turn, visit_end}
use Rattle.rowset_run.specs.Count.{more}
use Rattle.rowset_run.proofs.count_up.Goals as goal

pub loop-r-init : goal.loop-r-init
loop-r-init c = (search rules, visit_begin more 0 0 c.args.s refl)

pub loop-r-smaller : goal.loop-r-smaller
loop-r-smaller c = next_less _ _ _ c.in-Some.ensures _ refl

pub loop-r-preserved : goal.loop-r-preserved
loop-r-preserved c =
    let f = found_next _ _ _ c.in-Some.ensures _ refl in
    (omega (arith, f.low, c.loop-r.invariant.0), visit_turn more 0 _ _ _ _ _ _ c.loop-r.invariant.1 c.in-Some.ensures refl refl)

pub returns-in-None : goal.returns-in-None
returns-in-None c = visit_end more 0 _ _ _ _ c.loop-r.invariant.1 c.in-None.ensures refl
