use Rattle.legality.specs.Rows.{row_ready}
use Rattle.rowset.specs.Iterating.{passing, gives, on}
use Rattle.rowset.specs.Visits.{found_next, remain_begin, all_on, all_stop, all_end}
use Rattle.legality.proofs.all_children_fit.Goals as goal

pub loop-r-init : goal.loop-r-init
loop-r-init c = passing _ _ _ _ c.into_iter-r-iterator.ensures.into_iter_gives c.iter-r-items.ensures.set c.iter-r-items.ensures.at (remain_begin _ _)

pub returns : goal.returns
returns c = all_end _ _ _ _ c.loop-r.invariant.holds (gives c.loop-r.invariant c.next.ensures.steps) c.in-None.is

pub children_fit-requires : goal.children_fit-requires
children_fit-requires c = row_ready _ _ _ c.requires (found_next _ _ _ (gives c.loop-r.invariant c.next.ensures.steps) _ c.in-Some.is).here

pub returns-then-not-children_fit : goal.returns-then-not-children_fit
returns-then-not-children_fit c = all_stop _ _ _ _ _ _ c.loop-r.invariant.holds (gives c.loop-r.invariant c.next.ensures.steps) c.in-Some.is c.children_fit.ensures c.if-not-children_fit.true

pub loop-r-preserved : goal.loop-r-preserved
loop-r-preserved c = on c.loop-r.invariant c.next.ensures.steps _ c.in-Some.is (all_on _ _ _ _ _ _ c.loop-r.invariant.holds (gives c.loop-r.invariant c.next.ensures.steps) c.in-Some.is c.children_fit.ensures c.if-not-children_fit.false)
