use Rattle.std.proofs.Common.{rules}
use Rattle.onepass.specs.Four.{lives}
use Rattle.onepass.proofs.live_places.Goals as goal

pub returns : goal.returns
returns c = lives _ _ _ _ _ _ _ _ _ c.place_for.ensures c.place_for-2.ensures c.place_for-one.ensures (search rules) (search rules) (search rules) (search rules)
