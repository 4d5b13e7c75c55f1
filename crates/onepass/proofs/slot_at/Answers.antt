use Rattle.onepass.specs.Four.{slot_part}
use Rattle.onepass.proofs.slot_at.Goals as goal

pub returns : goal.returns
returns c = slot_part _ _
