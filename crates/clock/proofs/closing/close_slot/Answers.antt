use Rattle.clock.specs.Closing.{closed_part, whole_waits}
use Rattle.clock.proofs.closing.close_slot.Goals as goal

pub take_oldest-requires : goal.take_oldest-requires
take_oldest-requires c = let a = c in whole_waits a.args.slots.now a.args.i a.args.n a.requires

pub returns : goal.returns
returns c = let a = c in closed_part 64 a.args.slots.now a.args.i _ c.take_oldest.ensures
