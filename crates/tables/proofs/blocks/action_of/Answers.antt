use borrow.Author.Rules.{rules}
use Rattle.tables.specs.Parts.{actions_inside, actions_read, send_at}
use Rattle.tables.proofs.blocks.action_of.Goals as goal

pub overflow_mul-at : goal.overflow_mul-at
overflow_mul-at c = let l = actions_inside _ _ c.requires in search rules

pub overflow_add-kind : goal.overflow_add-kind
overflow_add-kind c = let l = actions_inside _ _ c.requires in search rules

pub offset_bounds-block-at : goal.offset_bounds-block-at
offset_bounds-block-at c = let l = actions_inside _ _ c.requires in search rules

pub bounds-block-at : goal.bounds-block-at
bounds-block-at c = let l = actions_inside _ _ c.requires in search rules

pub overflow_add-argument : goal.overflow_add-argument
overflow_add-argument c = let l = actions_inside _ _ c.requires in search rules

pub offset_bounds-block-at-2 : goal.offset_bounds-block-at-2
offset_bounds-block-at-2 c = let l = actions_inside _ _ c.requires in search rules

pub bounds-block-at-2 : goal.bounds-block-at-2
bounds-block-at-2 c = let l = actions_inside _ _ c.requires in search rules

pub overflow_add-result : goal.overflow_add-result
overflow_add-result c = let l = actions_inside _ _ c.requires in search rules

pub offset_bounds-block-at-then-kind-eq-SEND : goal.offset_bounds-block-at-then-kind-eq-SEND
offset_bounds-block-at-then-kind-eq-SEND c = let l = actions_inside _ _ c.requires in search rules

pub bounds-block-at-then-kind-eq-SEND : goal.bounds-block-at-then-kind-eq-SEND
bounds-block-at-then-kind-eq-SEND c = let l = actions_inside _ _ c.requires in search rules

pub overflow_add-result-then-kind-eq-SEND : goal.overflow_add-result-then-kind-eq-SEND
overflow_add-result-then-kind-eq-SEND c = let l = actions_inside _ _ c.requires in search rules

pub offset_bounds-block-at-then-kind-eq-SEND-2 : goal.offset_bounds-block-at-then-kind-eq-SEND-2
offset_bounds-block-at-then-kind-eq-SEND-2 c = let l = actions_inside _ _ c.requires in search rules

pub bounds-block-at-then-kind-eq-SEND-2 : goal.bounds-block-at-then-kind-eq-SEND-2
bounds-block-at-then-kind-eq-SEND-2 c = let l = actions_inside _ _ c.requires in search rules

pub returns-then-kind-eq-SEND : goal.returns-then-kind-eq-SEND
returns-then-kind-eq-SEND c = send_at _ _ _ c.requires.below c.if-kind-eq-SEND.true

pub returns : goal.returns
returns c = actions_read _ _ _ _ c.requires.below c.if-kind-eq-SEND.false c.action_from.ensures
