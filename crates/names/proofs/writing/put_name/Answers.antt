-- `put_name`: the name laid over zeros.
use Rattle.names.specs.Slots.{name_laid}
use Rattle.names.proofs.writing.put_name.Goals as goal

pub returns : goal.returns
returns c = name_laid _ _ _ _ c.clear_u8.ensures c.lay.ensures
