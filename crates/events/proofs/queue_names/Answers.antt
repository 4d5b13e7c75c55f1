use Rattle.events.specs.Joining.{queueing_begin, queueing_turn, queueing_room, queueing_size, queueing_same, queueing_end, known_at}
use Rattle.events.proofs.queue_names.Goals as goal

pub loop-join-init : goal.loop-join-init
loop-join-init c = queueing_begin _ _ _ _ _

pub queue_join-n-requires : goal.queue_join-n-requires
queue_join-n-requires c =
    let t = c.loop-join-test.true in
    let i = c.loop-join.invariant in
    (c.requires.0, known_at _ _ _ c.requires.1 t, queueing_size _ _ _ _ _ _ _ _ i c.requires.2, queueing_room _ _ _ _ _ _ _ _ i t c.requires.3)

pub loop-join-preserved : goal.loop-join-preserved
loop-join-preserved c =
    queueing_turn _ _ _ _ _ _ _ _ c.loop-join.invariant _ _ c.loop-join-test.true c.queue_join-n.ensures

pub shape_of-internal : goal.shape_of-internal
shape_of-internal c = queueing_same _ _ _ _ _ _ _ _ c.loop-join.invariant c.requires.2

pub returns : goal.returns
returns c = queueing_end _ _ _ _ _ _ _ _ c.loop-join.invariant c.requires.2 c.loop-join-test.false
