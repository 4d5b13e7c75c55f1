use Rattle.definition.specs.Rules.{transition_in_range, block_fits}
use Rattle.rules1.proofs.sizes.transition_in_range.Goals as goal

pub returns : goal.returns
unfolding transition_in_range block_fits
returns c = rw (
  c.transition_list_fits-3.ensures,
  c.transition_list_fits-2.ensures,
  c.is_optional_below.ensures,
  c.transition_list_fits.ensures,
  c.action_count-actions.ensures,
  c.reference_count-references.ensures,
  c.descriptor_count-descriptors.ensures,
  c.row_count-rows.ensures,
  c.transition_cell-internal.ensures,
  c.transition_cell-condition.ensures,
  c.transition_cell-source.ensures,
)
