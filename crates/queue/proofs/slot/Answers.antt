use Rattle.queue.specs.Places.{slot_part}
use Rattle.queue.proofs.slot.Goals as goal

pub returns : goal.returns
returns c = slot_part c.args.queue.now c.args.k
