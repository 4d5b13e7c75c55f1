use borrow.Author.Rules.{rules}
use Rattle.definition.specs.Tables.{source_at}
use Rattle.tables.specs.Ranges.{transition_fits_lem}
use Rattle.tables.proofs.transitions.source_of.Goals as goal

pub overflow_cast-result : goal.overflow_cast-result
overflow_cast-result c = let f = transition_fits_lem _ _ c.requires in search rules

pub returns : goal.returns
unfolding source_at
returns c = let f = transition_fits_lem _ _ c.requires in let e = c.transition_cell.ensures in record { is = e; row = record { tables = c.requires.tables; below = search rules } }
