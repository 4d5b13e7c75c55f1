use Rattle.onepass.specs.Four.{slot_room}
use Rattle.onepass.proofs.fn.finish.matched.Goals as goal

pub matched-requires : goal.matched-requires
matched-requires c = let pre = c.requires in slot_room _ _ _ _ c.slot_at.ensures pre.0 pre.1
