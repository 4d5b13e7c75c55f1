use Rattle.clock.specs.Cancelling.{name_part}
use Rattle.clock.proofs.cancelling.name_in.Goals as goal

pub returns : goal.returns
returns c = name_part c.args.slots.now _ c.args.i _ c.slot.ensures c.name_of.ensures
