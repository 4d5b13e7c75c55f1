use mathlib.Core.Path.{◌∙◌}
use Rattle.effects.specs.Blocks.{ahead_asked, ahead_all, behind_asked, behind_wrote}
use Rattle.effects.proofs.exits.perform_exiting.Goals as goal

pub perform_plain-plain-requires : goal.perform_plain-plain-requires
perform_plain-plain-requires c = ahead_asked _ _ _ _ c.exit_block_of-block.ensures _ c.requires.0.tables c.requires.1

pub returns-then-k-actions_in : goal.returns-then-k-actions_in
returns-then-k-actions_in c = ahead_all _ _ _ _ c.exit_block_of-block.ensures _ _ _ _ _ c.perform_plain-plain.ensures.0 c.perform_plain-plain.ensures.1 (c.if-k-actions_in.true ∙ c.actions_in.ensures)

pub perform_rest-requires : goal.perform_rest-requires
perform_rest-requires c = behind_asked _ _ _ _ c.exit_block_of-block.ensures _ _ _ _ _ c.perform_plain-plain.ensures.0 c.perform_plain-plain.ensures.1 _ c.active_out-active.ensures _ c.exit_block_of-again.ensures c.requires.0.tables c.requires.1

pub returns : goal.returns
returns c = behind_wrote _ _ _ _ c.exit_block_of-block.ensures _ _ _ _ _ c.perform_plain-plain.ensures.0 c.perform_plain-plain.ensures.1 _ c.active_out-active.ensures _ c.exit_block_of-again.ensures _ _ c.perform_rest.ensures
