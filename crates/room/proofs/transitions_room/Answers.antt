use mathlib.Core.Path.{refl}
use native.Mathlib.Omega.{arith}
use Rattle.laws.specs.Passes.{count_end}
use Rattle.room.specs.Room.{add_transition, transition_room, transitions_room}
use Rattle.room.specs.Adding.{added_begin, added_turn}
use Rattle.room.proofs.transitions_room.Goals as goal

pub loop-t-init : goal.loop-t-init
loop-t-init c = (c.transition_count-n.ensures, added_begin _ _ _)

pub loop-t-preserved : goal.loop-t-preserved
unfolding add_transition
loop-t-preserved c = let v = c.loop-t.invariant in (v.0, added_turn _ (transition_room _) _ _ _ _ _ (λ a k. refl) c.loop-t-test.true v.1 c.transition_room-sum.ensures)

pub returns : goal.returns
unfolding transitions_room
returns c =
    let v = c.loop-t.invariant in
    let e = v.0 in
    let l = v.1.low in
    let m = v.1.counted.most in
    let t = c.requires.sized.counts.transitions in
    record { is = count_end _ _ _ _ _ _ v.0 c.loop-t-test.false v.1.counted; few = omega arith }
