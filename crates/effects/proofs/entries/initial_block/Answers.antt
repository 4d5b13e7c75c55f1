use mathlib.Core.Path.{sym, subst, ◌∙◌}
use Rattle.effects.specs.Entering.{initial_not, initial_runs}
use Rattle.effects.specs.Blocks.{block_asked, block_wrote}
use Rattle.effects.specs.Trace.{Wrote, Room}
use Rattle.effects.specs.Writing.{wrote_none}
use Rattle.effects.proofs.entries.initial_block.Goals as goal

pub returns-then-not-has : goal.returns-then-not-has
returns-then-not-has c = subst (Wrote _ _ _ _) (sym (initial_not _ _ _ _ (sym c.has.ensures ∙ c.if-not-has.true))) (wrote_none _ _)

pub perform_entering-requires : goal.perform_entering-requires
perform_entering-requires c = block_asked _ _ _ _ c.list_block_of-block.ensures _ c.requires.0.tables (subst (Room _) (initial_runs _ _ _ _ (sym c.has.ensures ∙ c.if-not-has.false)) c.requires.1)

pub returns : goal.returns
returns c = subst (Wrote _ _ _ _) (sym (initial_runs _ _ _ _ (sym c.has.ensures ∙ c.if-not-has.false))) (block_wrote _ _ _ _ c.list_block_of-block.ensures _ _ _ _ c.perform_entering.ensures)
