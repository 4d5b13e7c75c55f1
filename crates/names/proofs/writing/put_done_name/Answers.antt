-- `put_done_name`: "done.state." and the id laid over zeros.
use Rattle.names.specs.Slots.{done_laid}
use Rattle.names.proofs.writing.put_done_name.Goals as goal

pub returns : goal.returns
returns c = done_laid _ _ _ _ _ c.clear_u8.ensures c.lay.ensures c.lay-2.ensures
