use native.Mathlib.Omega.{arith}
use Rattle.clock.specs.Putting.{cell_closed_in}
use Rattle.clock.proofs.parts.close_dues.Goals as goal

pub returns : goal.returns
returns c =
    let a = c in
    cell_closed_in 16 8 256 a.args.clock.now _ a.args.i a.requires.0 (omega arith) (omega arith) c.close_due.ensures
