use borrow.Author.Rules.{rules}
use Rattle.tags.specs.Cells.{mark_cells, mark_other, mark_in}
use Rattle.tags.proofs.note_mark.Goals as goal

pub note_value-requires : goal.note_value-requires
note_value-requires c = search (rules, mark_in)

pub returns-in-Valued : goal.returns-in-Valued
returns-in-Valued c = search (rules, mark_cells)

pub returns-in_default : goal.returns-in_default
returns-in_default c = mark_other _ _ c.in_default.not-Valued
