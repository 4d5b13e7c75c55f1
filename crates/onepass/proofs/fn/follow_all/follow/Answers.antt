use Rattle.onepass.specs.Four.{slot_room}
use Rattle.onepass.proofs.fn.follow_all.follow.Goals as goal

pub follow-requires : goal.follow-requires
follow-requires c = let pre = c.requires in slot_room _ _ _ _ c.slot_at.ensures pre.0 pre.1
