use Rattle.state.specs.Numbers.{state_written}
use Rattle.state.proofs.put_state.Goals as goal

pub returns : goal.returns
returns c = state_written c.args.numbers.now _ _ _ _ _ _ _ c.requires c.put_set.ensures c.copy_from_slice.ensures.after c.from.ensures
