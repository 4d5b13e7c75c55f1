use native.Mathlib.Omega.{arith}
use Rattle.rowset.specs.Iterating.{passing, gives, on}
use Rattle.rowset.specs.Visits.{next_small}
use Rattle.histories.specs.Shares.{share_begin, share_turn, share_end}
use Rattle.histories.proofs.common_of.Goals as goal

pub loop-r-init : goal.loop-r-init
loop-r-init c = passing _ _ _ _ c.into_iter-r-iterator.ensures.into_iter_gives c.iter-r-items.ensures.set c.iter-r-items.ensures.at (share_begin _ _ _ _ _ c.empty-some.ensures c.empty-twice.ensures c.below-every.ensures)

pub returns : goal.returns
returns c = share_end _ _ _ _ _ _ _ (gives c.loop-r.invariant c.next.ensures.steps) c.loop-r.invariant.holds c.in-None.is

pub set_at-here-requires : goal.set_at-here-requires
set_at-here-requires c = let l = next_small _ _ _ (gives c.loop-r.invariant c.next.ensures.steps) _ c.in-Some.is in let z = c.requires in record { inside = omega arith }

pub loop-r-preserved : goal.loop-r-preserved
loop-r-preserved c = on c.loop-r.invariant c.next.ensures.steps _ c.in-Some.is (share_turn _ _ _ _ _ _ _ (gives c.loop-r.invariant c.next.ensures.steps) c.loop-r.invariant.holds _ _ _ _ _ _ c.in-Some.is (rw c.from.ensures at c.set_at-here.ensures) c.intersection.ensures c.union-twice.ensures c.union-some.ensures c.intersection-every.ensures)
