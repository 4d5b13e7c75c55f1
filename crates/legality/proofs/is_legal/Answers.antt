use Rattle.legality.specs.Rows.{rows_ready, row_ready, root_ready, legal_outside, legal_not, legal_is}
use Rattle.rowset.specs.Iterating.{passing, gives, on}
use Rattle.rowset.specs.Visits.{found_next, remain_begin, all_on, all_stop, all_end}
use Rattle.laws.specs.Loops.{said_not_yes, said_not_no}
use mathlib.Core.Bool.{not}
use mathlib.Core.Path.{ap}
use Rattle.legality.proofs.is_legal.Goals as goal

pub returns-then-not-is_inside : goal.returns-then-not-is_inside
returns-then-not-is_inside c = legal_outside _ _ (said_not_yes _ _ c.is_inside.ensures (ap not c.if-not-is_inside.true))

pub loop-r-init : goal.loop-r-init
loop-r-init c = passing _ _ _ _ c.into_iter-r-iterator.ensures.into_iter_gives c.iter-r-items.ensures.set c.iter-r-items.ensures.at ((said_not_no _ _ c.is_inside.ensures (ap not c.if-not-is_inside.false), remain_begin _ _))

pub children_fit-requires : goal.children_fit-requires
children_fit-requires c = root_ready _ c.requires

pub returns : goal.returns
returns c = legal_is _ _ _ c.loop-r.invariant.holds.0 (all_end _ _ _ _ c.loop-r.invariant.holds.1 (gives c.loop-r.invariant c.next.ensures.steps) c.in-None.is) c.children_fit.ensures

pub row_fits-requires : goal.row_fits-requires
row_fits-requires c = row_ready _ _ _ (rows_ready _ _ c.requires c.loop-r.invariant.holds.0) (found_next _ _ _ (gives c.loop-r.invariant c.next.ensures.steps) _ c.in-Some.is).here

pub returns-then-not-row_fits : goal.returns-then-not-row_fits
returns-then-not-row_fits c = legal_not _ _ c.loop-r.invariant.holds.0 (all_stop _ _ _ _ _ _ c.loop-r.invariant.holds.1 (gives c.loop-r.invariant c.next.ensures.steps) c.in-Some.is c.row_fits.ensures c.if-not-row_fits.true)

pub loop-r-preserved : goal.loop-r-preserved
loop-r-preserved c = on c.loop-r.invariant c.next.ensures.steps _ c.in-Some.is ((c.loop-r.invariant.holds.0, (all_on _ _ _ _ _ _ c.loop-r.invariant.holds.1 (gives c.loop-r.invariant c.next.ensures.steps) c.in-Some.is c.row_fits.ensures c.if-not-row_fits.false)))
