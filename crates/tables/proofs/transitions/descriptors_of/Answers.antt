use borrow.Author.Rules.{rules}
use Rattle.definition.specs.Tables.{events_at, descriptors_at}
use Rattle.tables.specs.Parts.{listed_as}
use Rattle.tables.specs.Ranges.{transition_fits_lem}
use Rattle.tables.proofs.transitions.descriptors_of.Goals as goal

pub descriptors_part-requires : goal.descriptors_part-requires
descriptors_part-requires c = let f = transition_fits_lem _ _ c.requires in search rules

pub returns : goal.returns
unfolding events_at
returns c = let f = transition_fits_lem _ _ c.requires in listed_as _ (descriptors_at _) _ _ _ _ _ _ c.transition_cell-start.ensures c.transition_cell-count.ensures f.few_events c.descriptors_part.ensures
