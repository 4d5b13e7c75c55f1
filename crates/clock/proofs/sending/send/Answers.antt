use mathlib.Core.Path.{refl}
use native.Mathlib.Omega.{arith}
use Rattle.clock.specs.Spelled.{holds_length}
use Rattle.definition.specs.declared.Mode.TheVariants.{Running}
use Rattle.clock.specs.Sending.{send_full, send_done, ticks_room}
use Rattle.clock.proofs.sending.send.Goals as goal

pub count_of-n-requires : goal.count_of-n-requires
count_of-n-requires c = holds_length Running _ c.requires.0

pub shape_of-clock-then-n-ge-MOST_PENDING : goal.shape_of-clock-then-n-ge-MOST_PENDING
shape_of-clock-then-n-ge-MOST_PENDING c = refl

pub returns-then-n-ge-MOST_PENDING : goal.returns-then-n-ge-MOST_PENDING
returns-then-n-ge-MOST_PENDING c = let a = c in send_full a.args.clock.now a.requires.0 a.args.delay _ _ _ c.count_of-n.ensures (omega arith)

pub ticks_of-requires : goal.ticks_of-requires
ticks_of-requires c = holds_length Running _ c.requires.0

pub overflow_add-due : goal.overflow_add-due
overflow_add-due c = let a = c in ticks_room a.args.clock.now a.requires.0 _ a.args.delay c.ticks_of.ensures (omega arith)

pub put_due-requires : goal.put_due-requires
put_due-requires c = (holds_length Running _ c.requires.0, omega arith)

pub put_event-requires : goal.put_event-requires
put_event-requires c = (c.put_due.ensures.size, omega arith)

pub put_id-requires : goal.put_id-requires
put_id-requires c = (c.put_event.ensures.size, omega arith)

pub overflow_add-n : goal.overflow_add-n
overflow_add-n c = omega arith

pub put_number-requires : goal.put_number-requires
put_number-requires c = omega (arith, c.put_id.ensures.size)

pub returns : goal.returns
returns c =
    let a = c in
    send_done a.args.clock.now a.requires.0 a.args.delay _ _ _ c.count_of-n.ensures (omega arith) (omega arith) a.requires.1 a.requires.2 _ _ _ _ _ c.ticks_of.ensures
    c.put_due.ensures c.put_event.ensures c.put_id.ensures c.put_number.ensures
