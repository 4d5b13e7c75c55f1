use mathlib.Core.Path.{◌∙◌}
use Rattle.rowset.specs.Iterating.{passing, gives, on}
use Rattle.microstep.specs.Words.{storing_begin, storing_row, storing_turn, storing_end}
use Rattle.microstep.proofs.storing.store.Goals as goal

pub loop-h-init : goal.loop-h-init
loop-h-init c = passing _ _ _ _ c.into_iter-h-iterator.ensures.into_iter_gives c.iter-h-items.ensures.set c.iter-h-items.ensures.at (storing_begin _ _ _ _)

pub store_row-requires : goal.store_row-requires
store_row-requires c = (c.requires.0, storing_row _ _ _ _ _ _ c.requires.1 _ _ (gives c.loop-h.invariant c.next.ensures.steps) c.loop-h.invariant.holds c.requires.0.ready _ c.in-Some.is, c.loop-h.invariant.holds.room ∙ c.requires.2)

pub loop-h-preserved : goal.loop-h-preserved
loop-h-preserved c = on c.loop-h.invariant c.next.ensures.steps _ c.in-Some.is (storing_turn _ _ _ _ _ _ c.requires.1 _ _ (gives c.loop-h.invariant c.next.ensures.steps) c.loop-h.invariant.holds _ _ c.in-Some.is c.store_row.ensures)

pub shape_of-history : goal.shape_of-history
shape_of-history c = c.loop-h.invariant.holds.room

pub returns : goal.returns
returns c = storing_end _ _ _ _ _ _ c.requires.1 _ _ (gives c.loop-h.invariant c.next.ensures.steps) c.loop-h.invariant.holds c.in-None.is
