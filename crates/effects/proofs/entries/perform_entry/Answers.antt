use mathlib.Core.Path.{◌∙◌, refl}
use Rattle.effects.specs.Blocks.{ahead_asked, ahead_all, behind_asked, behind_wrote}
use Rattle.effects.proofs.entries.perform_entry.Goals as goal

pub perform_plain-plain-requires : goal.perform_plain-plain-requires
perform_plain-plain-requires c = ahead_asked _ _ _ _ c.entry_block_of-block.ensures _ c.requires.0.tables c.requires.1

pub returns-then-k-actions_in : goal.returns-then-k-actions_in
returns-then-k-actions_in c = ahead_all _ _ _ _ c.entry_block_of-block.ensures _ _ _ _ _ c.perform_plain-plain.ensures.0 c.perform_plain-plain.ensures.1 (c.if-k-actions_in.true ∙ c.actions_in.ensures)

pub rest_entering-requires : goal.rest_entering-requires
rest_entering-requires c = behind_asked _ _ _ _ c.entry_block_of-block.ensures _ _ _ _ _ c.perform_plain-plain.ensures.0 c.perform_plain-plain.ensures.1 _ refl _ c.entry_block_of-again.ensures c.requires.0.tables c.requires.1

pub returns : goal.returns
returns c = behind_wrote _ _ _ _ c.entry_block_of-block.ensures _ _ _ _ _ c.perform_plain-plain.ensures.0 c.perform_plain-plain.ensures.1 _ refl _ c.entry_block_of-again.ensures _ _ c.rest_entering.ensures
