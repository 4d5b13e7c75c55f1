use Rattle.queue.specs.Places.{put_slot}
use Rattle.queue.proofs.put_done_last.Goals as goal

pub returns : goal.returns
returns c = let a = c.args in put_slot a.queue.now a.count _ _ c.requires c.put_done_name.ensures
