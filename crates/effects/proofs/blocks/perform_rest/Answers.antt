use Rattle.effects.specs.Blocks.{branching_begin, branching_inside, branching_fits, branching_low, branching_room, branching_turn, branching_end, branching_length, branching_joins}
use Rattle.effects.proofs.blocks.perform_rest.Goals as goal

pub loop-k-init : goal.loop-k-init
loop-k-init c = branching_begin _ _ _ _ _ _ c.actions_in-n.ensures c.requires.0 c.requires.1

pub action_of-action-requires : goal.action_of-action-requires
action_of-action-requires c = record { below = branching_inside _ _ _ c.loop-k.invariant.size c.loop-k-test.true }

pub perform_in-sum-requires : goal.perform_in-sum-requires
perform_in-sum-requires c =
    let l = c.loop-k-test.true in
    let i = c.loop-k.invariant in
    (branching_fits _ _ _ _ _ _ _ _ _ _ i l _ c.action_of-action.ensures, branching_room _ _ _ _ _ _ _ _ _ _ i l _ c.action_of-action.ensures)

pub reach_after-reach-requires : goal.reach_after-reach-requires
reach_after-reach-requires c =
    let l = c.loop-k-test.true in
    let i = c.loop-k.invariant in
    (branching_fits _ _ _ _ _ _ _ _ _ _ i l _ c.action_of-action.ensures, branching_low _ _ _ _ _ _ _ _ _ _ i l _ c.action_of-action.ensures)

pub loop-k-preserved : goal.loop-k-preserved
loop-k-preserved c = branching_turn _ _ _ _ _ _ _ _ _ _ c.loop-k.invariant c.loop-k-test.true _ c.action_of-action.ensures _ _ _ c.perform_in-sum.ensures c.reach_after-reach.ensures

pub shape_of-trace : goal.shape_of-trace
shape_of-trace c = branching_length _ _ _ _ _ _ _ _ _ _ c.loop-k.invariant

pub shape_of-joins : goal.shape_of-joins
shape_of-joins c = branching_joins _ _ _ _ _ _ _ _ _ _ c.loop-k.invariant

pub returns : goal.returns
returns c = branching_end _ _ _ _ _ _ _ _ _ _ c.loop-k.invariant c.loop-k-test.false
