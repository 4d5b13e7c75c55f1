use mathlib.Core.Path.{refl}
use native.Mathlib.Omega.{arith}
use Rattle.laws.specs.Passes.{drop_end}
use Rattle.chart.specs.Within.{within_low}
use Rattle.effects.specs.Emitting.{emitting_begin, emitting_end, emitting_length, emitting_joins, emitting_item_room, emitting_item_turn}
use Rattle.effects.proofs.transitions.transition_effects.Goals as goal

pub loop-i-init : goal.loop-i-init
loop-i-init c = (omega arith, emitting_begin _ _ _ _ _ c.requires.3 refl)

pub take_transition-sum-requires : goal.take_transition-sum-requires
take_transition-sum-requires c = let l = c.loop-i-test.true in (record { tables = c.requires.0; below = within_low _ _ _ c.requires.1.inside l }, c.requires.2, emitting_item_room _ _ _ _ _ _ _ _ l refl c.loop-i.invariant.1)

pub loop-i-preserved : goal.loop-i-preserved
loop-i-preserved c = let l = c.loop-i-test.true in (omega arith, emitting_item_turn _ _ _ _ _ _ _ _ _ _ l refl c.loop-i.invariant.1 c.take_transition-sum.ensures)

pub shape_of-trace : goal.shape_of-trace
shape_of-trace c = emitting_length _ _ _ _ _ _ _ c.loop-i.invariant.1

pub shape_of-joins : goal.shape_of-joins
shape_of-joins c = emitting_joins _ _ _ _ _ _ _ c.loop-i.invariant.1

pub returns : goal.returns
returns c = let l = c.loop-i-test.false in emitting_end _ _ _ _ _ _ _ (drop_end c.loop-i.i c.args.chosen.now (omega arith)) c.loop-i.invariant.1
