use Rattle.microstep.specs.Plan.{start_effects, start_room}
use Rattle.microstep.proofs.planning.first_effects.Goals as goal

pub entry_effects-requires : goal.entry_effects-requires
unfolding start_effects
entry_effects-requires c = (c.requires.0.ready, c.requires.0.set, c.requires.0.fallen, start_room _ _ _ c.requires.0 c.requires.1)

pub returns : goal.returns
unfolding start_effects
returns c = c.entry_effects.ensures
