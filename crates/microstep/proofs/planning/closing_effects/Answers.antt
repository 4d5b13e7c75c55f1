use Rattle.effects.specs.Bounds.{exiting_room}
use Rattle.microstep.proofs.planning.closing_effects.Goals as goal

pub exit_effects-requires : goal.exit_effects-requires
exit_effects-requires c = (c.requires.0.tables, c.requires.1, exiting_room _ c.requires.0.tables _ _ _ c.requires.2.entries c.requires.2.names c.requires.2.timers c.requires.1)
