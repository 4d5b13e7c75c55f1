use native.Mathlib.Omega.{arith}
use Rattle.room.specs.Room.{room_in_row}
use Rattle.room.specs.Adding.{block_few}
use Rattle.room.proofs.row_room.Goals as goal

pub overflow_add-result : goal.overflow_add-result
overflow_add-result c =
    let x = block_few _ _ _ _ c.exit_block_of.ensures c.actions_in-exit.ensures in
    let a = x.few in
    omega arith

pub overflow_add-result-2 : goal.overflow_add-result-2
overflow_add-result-2 c =
    let x = block_few _ _ _ _ c.exit_block_of.ensures c.actions_in-exit.ensures in
    let y = block_few _ _ _ _ c.entry_block_of.ensures c.actions_in-entry.ensures in
    let a = x.few in
    let b = y.few in
    omega arith

pub overflow_add-result-3 : goal.overflow_add-result-3
overflow_add-result-3 c =
    let x = block_few _ _ _ _ c.exit_block_of.ensures c.actions_in-exit.ensures in
    let y = block_few _ _ _ _ c.entry_block_of.ensures c.actions_in-entry.ensures in
    let z = block_few _ _ _ _ c.list_block_of.ensures c.actions_in-list.ensures in
    let a = x.few in
    let b = y.few in
    let d = z.few in
    omega arith

pub returns : goal.returns
unfolding room_in_row
returns c =
    let x = block_few _ _ _ _ c.exit_block_of.ensures c.actions_in-exit.ensures in
    let y = block_few _ _ _ _ c.entry_block_of.ensures c.actions_in-entry.ensures in
    let z = block_few _ _ _ _ c.list_block_of.ensures c.actions_in-list.ensures in
    let a = x.few in
    let b = y.few in
    let d = z.few in
    let e = x.is in
    let f = y.is in
    let g = z.is in
    record { is = omega arith; few = omega arith }
