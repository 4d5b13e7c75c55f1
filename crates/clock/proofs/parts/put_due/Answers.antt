use Rattle.clock.specs.Putting.{number_put_in}
use Rattle.clock.proofs.parts.put_due.Goals as goal

pub returns : goal.returns
returns c =
    let a = c in
    number_put_in a.args.clock.now _ a.args.n a.args.due a.requires.0 a.requires.1 c.put_number.ensures
