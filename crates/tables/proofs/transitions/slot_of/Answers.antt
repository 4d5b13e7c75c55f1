use Rattle.tables.specs.Parts.{slot_is}
use Rattle.tables.proofs.transitions.slot_of.Goals as goal

pub returns : goal.returns
returns c = slot_is _ _ c.requires
