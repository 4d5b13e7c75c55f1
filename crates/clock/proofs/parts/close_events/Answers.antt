use native.Mathlib.Omega.{arith}
use Rattle.clock.specs.Putting.{cell_closed_in, slot_inside}
use Rattle.clock.proofs.parts.close_events.Goals as goal

pub returns : goal.returns
returns c =
    let a = c in
    cell_closed_in 272 64 2048 a.args.clock.now _ a.args.i a.requires.0 (omega arith) (slot_inside a.args.clock.now 272 a.args.i a.args.n a.requires.0 (omega arith) a.requires.1) c.close_slot.ensures
