use Rattle.rules1.specs.Keys.{mix_of}
use Rattle.rules1.proofs.keys.mixed.Goals as goal

pub returns : goal.returns
unfolding mix_of
returns c = rw c.rotate_left.ensures
