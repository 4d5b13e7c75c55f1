use Rattle.queue.proofs.clear.Goals as goal

pub returns : goal.returns
returns c = c.clear_u8.ensures
