use mathlib.Core.Path.{sym, ◌∙◌}
use borrow.Author.Rules.{rules}
use Rattle.effects.specs.Entering.{history_later}
use Rattle.microstep.specs.Words.{row_kept, row_stored, rows_of_set, put_at_lem}
use Rattle.microstep.proofs.storing.store_row.Goals as goal

pub parent_row-requires : goal.parent_row-requires
parent_row-requires c = record { row = c.requires.1.row; later = history_later _ _ c.requires.1 }

pub returns-then-not-has : goal.returns-then-not-has
returns-then-not-has c = row_kept _ _ _ _ _ _ c.requires.1 c.parent_row.ensures.is (sym c.has.ensures ∙ c.if-not-has.true)

pub returns : goal.returns
returns c = row_stored _ _ _ _ _ _ c.requires.1 c.parent_row.ensures.is _ _ _ (sym c.has.ensures ∙ c.if-not-has.false) (rows_of_set _ ∙ c.would_store-set.ensures) c.row_index.ensures (put_at_lem _ _ _ _ (search rules) c.put_set.ensures)
