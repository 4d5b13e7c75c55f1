use Rattle.legality.specs.Rows.{row_ready}
use Rattle.rowset.specs.Iterating.{passing, gives, on}
use Rattle.rowset.specs.Visits.{found_next, remain_begin, all_on, all_stop, all_end}
use Rattle.legality.proofs.are_atomic_below.Goals as goal

pub loop-r-init : goal.loop-r-init
loop-r-init c = passing _ _ _ _ c.into_iter-r-iterator.ensures.into_iter_gives c.iter-r-items.ensures.set c.iter-r-items.ensures.at (remain_begin _ _)

pub returns : goal.returns
returns c = all_end _ _ _ _ c.loop-r.invariant.holds (gives c.loop-r.invariant c.next.ensures.steps) c.in-None.is

pub is_atomic_below-requires : goal.is_atomic_below-requires
is_atomic_below-requires c = (c.requires.0, row_ready _ _ _ c.requires.1 (found_next _ _ _ (gives c.loop-r.invariant c.next.ensures.steps) _ c.in-Some.is).here)

pub returns-then-not-is_atomic_below : goal.returns-then-not-is_atomic_below
returns-then-not-is_atomic_below c = all_stop _ _ _ _ _ _ c.loop-r.invariant.holds (gives c.loop-r.invariant c.next.ensures.steps) c.in-Some.is c.is_atomic_below.ensures c.if-not-is_atomic_below.true

pub loop-r-preserved : goal.loop-r-preserved
loop-r-preserved c = on c.loop-r.invariant c.next.ensures.steps _ c.in-Some.is (all_on _ _ _ _ _ _ c.loop-r.invariant.holds (gives c.loop-r.invariant c.next.ensures.steps) c.in-Some.is c.is_atomic_below.ensures c.if-not-is_atomic_below.false)
