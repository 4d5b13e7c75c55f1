use Rattle.definition.specs.Rules.{counts_fit}
use Rattle.tables.proofs.header.counts_fit.Goals as goal

pub returns : goal.returns
unfolding counts_fit
returns c = rw (c.row_count-rows.ensures, c.transition_count-transitions.ensures, c.name_count-names.ensures, c.reference_count-references.ensures, c.descriptor_count-descriptors.ensures, c.action_count-actions.ensures)
