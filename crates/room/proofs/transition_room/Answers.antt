use native.Mathlib.Omega.{arith}
use Rattle.room.specs.Room.{transition_room}
use Rattle.room.specs.Adding.{block_few}
use Rattle.room.proofs.transition_room.Goals as goal

pub overflow_add-result : goal.overflow_add-result
overflow_add-result c =
    let x = block_few _ _ _ _ c.transition_block_of.ensures c.actions_in.ensures in
    let a = x.few in
    omega arith

pub returns : goal.returns
unfolding transition_room
returns c =
    let x = block_few _ _ _ _ c.transition_block_of.ensures c.actions_in.ensures in
    let a = x.few in
    let e = x.is in
    record { is = omega arith; few = omega arith }
