use mathlib.Core.Path.{refl}
use Rattle.matching.specs.Events.{matched_at}
use Rattle.matching.proofs.matches_at.Goals as goal

pub returns : goal.returns
returns c = matched_at _ _ _ _ _ _ c.slot_of-slot.ensures.is refl c.slot_matches.ensures
