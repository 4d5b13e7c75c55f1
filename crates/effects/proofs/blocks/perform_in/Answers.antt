use Rattle.effects.specs.Kinds.{live_room, live_wrote, waiting_wrote, past_wrote}
use Rattle.effects.proofs.blocks.perform_in.Goals as goal

pub perform_action-requires : goal.perform_action-requires
perform_action-requires c = (c.requires.0, live_room _ _ _ c.in-Live.is c.requires.1)

pub returns-in-Live : goal.returns-in-Live
returns-in-Live c = live_wrote _ _ _ _ _ _ c.in-Live.is c.perform_action.ensures

pub returns-in-Waiting : goal.returns-in-Waiting
returns-in-Waiting c = waiting_wrote _ _ _ _ _ c.in-Waiting.is

pub returns-in-Past : goal.returns-in-Past
returns-in-Past c = past_wrote _ _ _ _ _ c.in-Past.is
