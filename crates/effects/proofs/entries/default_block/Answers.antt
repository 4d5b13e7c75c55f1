use mathlib.Core.Path.{refl, sym, subst}
use Rattle.std.specs.Prelude.{ℕ, not}
use lib.Dec.{eqb}
use Rattle.laws.specs.Loops.{told, said_not_yes, said_not_no}
use Rattle.effects.specs.Entering.{history_later, default_not, default_runs}
use Rattle.effects.specs.Blocks.{block_asked, block_wrote}
use Rattle.effects.specs.Trace.{Wrote, Room}
use Rattle.effects.specs.Writing.{wrote_none}
use Rattle.effects.proofs.entries.default_block.Goals as goal

pub parent_row-requires : goal.parent_row-requires
parent_row-requires c = record { row = c.requires.0.row; later = history_later _ _ c.requires.0 }

pub returns-then-ne : goal.returns-then-ne
returns-then-ne c = subst (Wrote _ _ _ _) (sym (default_not _ _ _ _ (said_not_yes _ _ refl (told (λ (x : ℕ). not (eqb c.args.r.0 x)) _ _ _ _ c.parent_row.ensures.is c.ne.ensures c.if-ne.true)))) (wrote_none _ _)

pub perform_entering-requires : goal.perform_entering-requires
perform_entering-requires c = block_asked _ _ _ _ c.list_block_of-block.ensures _ c.requires.0.row.ready.tables (subst (Room _) (default_runs _ _ _ _ (said_not_no _ _ refl (told (λ (x : ℕ). not (eqb c.args.r.0 x)) _ _ _ _ c.parent_row.ensures.is c.ne.ensures c.if-ne.false))) c.requires.1)

pub returns : goal.returns
returns c = subst (Wrote _ _ _ _) (sym (default_runs _ _ _ _ (said_not_no _ _ refl (told (λ (x : ℕ). not (eqb c.args.r.0 x)) _ _ _ _ c.parent_row.ensures.is c.ne.ensures c.if-ne.false)))) (block_wrote _ _ _ _ c.list_block_of-block.ensures _ _ _ _ c.perform_entering.ensures)
