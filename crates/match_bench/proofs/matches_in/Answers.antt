use Rattle.match_bench.specs.Ways.{in_slot}
use Rattle.match_bench.proofs.matches_in.Goals as goal

pub returns : goal.returns
returns c = in_slot _ _ _ _ c.slot_matches.ensures
