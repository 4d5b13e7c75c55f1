use Rattle.histories.specs.Places.{blank_zeros}
use Rattle.histories.proofs.places_hold.Goals as goal

pub judge-requires : goal.judge-requires
judge-requires c = (c.requires.0, c.requires.1, blank_zeros)
