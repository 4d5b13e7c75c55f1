use Rattle.rules1.specs.Filled.{is_wrong}
use Rattle.rules1.proofs.filled.is_wrong.Goals as goal

pub returns : goal.returns
unfolding is_wrong
returns c = rw c.is_held.ensures
