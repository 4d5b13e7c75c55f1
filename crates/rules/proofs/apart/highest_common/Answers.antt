use Rattle.rules.specs.Nearest.{highest_at, highest_none}
use Rattle.rules.proofs.apart.highest_common.Goals as goal

pub returns-in-Some : goal.returns-in-Some
returns-in-Some c = highest_at _ _ _ _ c.intersection.ensures c.prev_below.ensures _ c.in-Some.is

pub returns-in-None : goal.returns-in-None
returns-in-None c = highest_none _ _ _ _ c.intersection.ensures c.prev_below.ensures c.in-None.is
