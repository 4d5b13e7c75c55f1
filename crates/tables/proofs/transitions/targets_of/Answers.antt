use borrow.Author.Rules.{rules}
use Rattle.definition.specs.Tables.{targets_at, references_at}
use Rattle.tables.specs.Parts.{listed_as}
use Rattle.tables.specs.Ranges.{transition_fits_lem}
use Rattle.tables.proofs.transitions.targets_of.Goals as goal

pub references_part-requires : goal.references_part-requires
references_part-requires c = let f = transition_fits_lem _ _ c.requires in search rules

pub returns : goal.returns
unfolding targets_at
returns c = let f = transition_fits_lem _ _ c.requires in listed_as _ (references_at _) _ _ _ _ _ _ c.transition_cell-start.ensures c.transition_cell-count.ensures f.few_targets c.references_part.ensures
