use native.Mathlib.Omega.{arith}
use Rattle.clock.specs.Putting.{slot_put_in}
use Rattle.clock.proofs.parts.put_event.Goals as goal

pub returns : goal.returns
returns c =
    let a = c in
    slot_put_in 272 a.args.clock.now _ a.args.n _ a.requires.0 (omega arith) a.requires.1 c.put_last.ensures
