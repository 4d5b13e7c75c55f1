use mathlib.Core.Path.{◌∙◌, refl}
use Rattle.effects.specs.Blocks.{plain_room, all_plain, rest_room, rest_wrote}
use Rattle.effects.proofs.entries.perform_entering.Goals as goal

pub perform_plain-plain-requires : goal.perform_plain-plain-requires
perform_plain-plain-requires c = (c.requires.0, plain_room _ _ _ c.requires.1)

pub returns-then-k-actions_in : goal.returns-then-k-actions_in
returns-then-k-actions_in c = all_plain _ _ _ _ _ _ _ c.perform_plain-plain.ensures.0 c.perform_plain-plain.ensures.1 (c.if-k-actions_in.true ∙ c.actions_in.ensures)

pub rest_entering-requires : goal.rest_entering-requires
rest_entering-requires c = (c.requires.0, rest_room _ _ _ _ _ _ _ c.perform_plain-plain.ensures.0 c.perform_plain-plain.ensures.1 _ refl c.requires.1)

pub returns : goal.returns
returns c = rest_wrote _ _ _ _ _ _ _ c.perform_plain-plain.ensures.0 c.perform_plain-plain.ensures.1 _ refl _ _ c.rest_entering.ensures
