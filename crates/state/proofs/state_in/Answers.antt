use Rattle.state.specs.Numbers.{state_is}
use Rattle.state.proofs.state_in.Goals as goal

pub returns : goal.returns
returns c = state_is _ _ _ c.set_at.ensures c.from.ensures
