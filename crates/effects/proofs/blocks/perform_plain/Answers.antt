use native.Mathlib.Omega.{arith}
use mathlib.Core.Path.{sym, ◌∙◌}
use Rattle.effects.specs.Blocks.{plainly_begin, plainly_inside, plainly_fits, plainly_room, plainly_turn, plainly_stop, plainly_end, plainly_length, plainly_joins}
use Rattle.effects.proofs.blocks.perform_plain.Goals as goal

pub loop-k-init : goal.loop-k-init
loop-k-init c = plainly_begin _ _ _ _ c.actions_in-n.ensures c.requires.0 c.requires.1

pub action_of-action-requires : goal.action_of-action-requires
action_of-action-requires c = record { below = plainly_inside _ _ _ _ _ _ _ c.loop-k.invariant c.loop-k-test.true }

pub shape_of-trace-then-is_branch : goal.shape_of-trace-then-is_branch
shape_of-trace-then-is_branch c = plainly_length _ _ _ _ _ _ _ c.loop-k.invariant

pub shape_of-joins-then-is_branch : goal.shape_of-joins-then-is_branch
shape_of-joins-then-is_branch c = plainly_joins _ _ _ _ _ _ _ c.loop-k.invariant

pub returns-then-is_branch : goal.returns-then-is_branch
returns-then-is_branch c = plainly_stop _ _ _ _ _ _ _ c.loop-k.invariant c.loop-k-test.true _ c.action_of-action.ensures (sym c.is_branch.ensures ∙ c.if-is_branch.true)

pub perform_action-sum-requires : goal.perform_action-sum-requires
perform_action-sum-requires c =
    let l = c.loop-k-test.true in
    let i = c.loop-k.invariant in
    let b = sym c.is_branch.ensures ∙ c.if-is_branch.false in
    (plainly_fits _ _ _ _ _ _ _ i l _ c.action_of-action.ensures b, plainly_room _ _ _ _ _ _ _ i l _ c.action_of-action.ensures b)

pub loop-k-preserved : goal.loop-k-preserved
loop-k-preserved c = plainly_turn _ _ _ _ _ _ _ c.loop-k.invariant c.loop-k-test.true _ c.action_of-action.ensures (sym c.is_branch.ensures ∙ c.if-is_branch.false) _ _ c.perform_action-sum.ensures

pub shape_of-trace : goal.shape_of-trace
shape_of-trace c = plainly_length _ _ _ _ _ _ _ c.loop-k.invariant

pub shape_of-joins : goal.shape_of-joins
shape_of-joins c = plainly_joins _ _ _ _ _ _ _ c.loop-k.invariant

pub returns : goal.returns
returns c = let l = c.loop-k-test.false in let q = plainly_end _ _ _ _ _ _ _ c.loop-k.invariant l in (q.0, omega arith)
