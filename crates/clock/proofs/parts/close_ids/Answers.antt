use native.Mathlib.Omega.{arith}
use Rattle.clock.specs.Putting.{cell_closed_in, slot_inside}
use Rattle.clock.proofs.parts.close_ids.Goals as goal

pub returns : goal.returns
returns c =
    let a = c in
    cell_closed_in 2320 64 2048 a.args.clock.now _ a.args.i a.requires.0 (omega arith) (slot_inside a.args.clock.now 2320 a.args.i a.args.n a.requires.0 (omega arith) a.requires.1) c.close_slot.ensures
