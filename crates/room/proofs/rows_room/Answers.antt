use mathlib.Core.Path.{refl}
use native.Mathlib.Omega.{arith}
use Rattle.laws.specs.Passes.{count_end}
use Rattle.room.specs.Room.{add_row, room_in_row, rows_room}
use Rattle.room.specs.Adding.{added_begin, added_turn}
use Rattle.room.proofs.rows_room.Goals as goal

pub loop-i-init : goal.loop-i-init
loop-i-init c = (c.row_count-rows.ensures, added_begin _ _ _)

pub loop-i-preserved : goal.loop-i-preserved
unfolding add_row
loop-i-preserved c = let v = c.loop-i.invariant in (v.0, added_turn _ (room_in_row _) _ _ _ _ _ (λ a k. refl) c.loop-i-test.true v.1 c.row_room-sum.ensures)

pub returns : goal.returns
unfolding rows_room
returns c =
    let v = c.loop-i.invariant in
    let e = v.0 in
    let l = v.1.low in
    let m = v.1.counted.most in
    let t = c.requires.sized.counts.rows in
    record { is = count_end _ _ _ _ _ _ v.0 c.loop-i-test.false v.1.counted; few = omega arith }
