use borrow.Author.Rules.{rules}
use Rattle.tables.proofs.rows.row_at.Goals as goal

pub overflow_cast-result : goal.overflow_cast-result
overflow_cast-result c = let l = c.requires.rows.low _ c.requires.below in search rules

pub returns : goal.returns
returns c = let l = c.requires.rows.low _ c.requires.below in search rules
