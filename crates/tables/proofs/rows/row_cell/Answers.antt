use borrow.Author.Rules.{rules}
use Rattle.tables.specs.Ranges.{layout}
use Rattle.definition.specs.Tables.{row_cell}
use borrow.Author.Tests.{lt-ltb}
use Rattle.tables.proofs.rows.row_cell.Goals as goal

pub bounds-numbers-at : goal.bounds-numbers-at
unfolding layout
bounds-numbers-at c = search rules

pub returns : goal.returns
unfolding row_cell
returns c = rw (lt-ltb _ _ c.requires.row)
