use mathlib.Core.Path.{◌∙◌}
use Rattle.cells.specs.Ends.{descriptor_room, target_room, block_room, transition_laid}
use Rattle.cells.proofs.lay_transition.Goals as goal

pub lay_part-requires : goal.lay_part-requires
lay_part-requires c = descriptor_room _ _ _ _ _ c.requires

pub lay_part-requires-2 : goal.lay_part-requires-2
lay_part-requires-2 c = target_room _ _ _ _ _ c.requires _ c.lay_part.ensures

pub lay_part-requires-3 : goal.lay_part-requires-3
lay_part-requires-3 c = block_room _ _ _ _ _ c.requires _ c.lay_part.ensures _ c.lay_part-2.ensures

pub shape_of-out : goal.shape_of-out
shape_of-out c = c.lay_part-3.ensures.size ∙ c.lay_part-2.ensures.size ∙ c.lay_part.ensures.size

pub returns : goal.returns
returns c = transition_laid _ _ _ _ _ c.requires _ c.lay_part.ensures _ c.lay_part-2.ensures _ c.lay_part-3.ensures
