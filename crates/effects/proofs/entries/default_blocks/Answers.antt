use mathlib.Core.Path.{sym, subst, ◌∙◌}
use Rattle.rowset.specs.Iterating.{passing, gives, on}
use Rattle.rowset.specs.Visits.{found_next, rest_at, rest_end}
use Rattle.effects.specs.Entering.{history_row, defaults_none}
use Rattle.effects.specs.Trace.{Wrote}
use Rattle.effects.specs.Writing.{wrote_none}
use Rattle.effects.specs.Emitting.{emitting_room, emitting_turn, emitting_end, emitting_length, emitting_joins, emitting_up}
use Rattle.effects.proofs.entries.default_blocks.Goals as goal

pub returns-then-is_empty : goal.returns-then-is_empty
returns-then-is_empty c = subst (Wrote _ _ _ _) (sym (defaults_none _ _ _ _ (sym c.is_empty.ensures ∙ c.if-is_empty.true))) (wrote_none _ _)

pub loop-h-init : goal.loop-h-init
loop-h-init c = passing _ _ _ _ c.into_iter-h-iterator.ensures.into_iter_gives c.iter-h-items.ensures.set c.iter-h-items.ensures.at (emitting_up _ _ _ _ c.requires.1)

pub default_block-sum-requires : goal.default_block-sum-requires
default_block-sum-requires c = (history_row _ _ _ c.requires.0 (found_next _ _ _ (gives c.loop-h.invariant c.next.ensures.steps) _ c.in-Some.is).here, emitting_room _ _ _ _ _ _ _ _ _ (rest_at _ _ _ (gives c.loop-h.invariant c.next.ensures.steps) _ c.in-Some.is) c.loop-h.invariant.holds)

pub loop-h-preserved : goal.loop-h-preserved
loop-h-preserved c = on c.loop-h.invariant c.next.ensures.steps _ c.in-Some.is (emitting_turn _ _ _ _ _ _ _ _ _ _ _ (rest_at _ _ _ (gives c.loop-h.invariant c.next.ensures.steps) _ c.in-Some.is) c.loop-h.invariant.holds c.default_block-sum.ensures)

pub shape_of-trace : goal.shape_of-trace
shape_of-trace c = emitting_length _ _ _ _ _ _ _ c.loop-h.invariant.holds

pub shape_of-joins : goal.shape_of-joins
shape_of-joins c = emitting_joins _ _ _ _ _ _ _ c.loop-h.invariant.holds

pub returns : goal.returns
returns c = emitting_end _ _ _ _ _ _ _ (rest_end _ _ _ (gives c.loop-h.invariant c.next.ensures.steps) c.in-None.is) c.loop-h.invariant.holds
