use Rattle.effects.specs.Blocks.{meant_room, meant_wrote}
use Rattle.effects.proofs.entries.rest_entering.Goals as goal

pub perform_rest-requires : goal.perform_rest-requires
perform_rest-requires c = (c.requires.0, meant_room _ _ _ c.active_at-active.ensures _ c.requires.1)

pub returns : goal.returns
returns c = meant_wrote _ _ _ c.active_at-active.ensures _ _ _ _ c.perform_rest.ensures
