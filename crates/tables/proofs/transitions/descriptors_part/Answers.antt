use borrow.Author.Rules.{rules}
use Rattle.tables.specs.Parts.{descriptors_listed}
use Rattle.tables.specs.Ranges.{layout}
use Rattle.tables.proofs.transitions.descriptors_part.Goals as goal

pub slice_bounds-result-end : goal.slice_bounds-result-end
unfolding layout
slice_bounds-result-end c = search rules

pub overflow_add-from : goal.overflow_add-from
unfolding layout
overflow_add-from c = search rules

pub overflow_add-to : goal.overflow_add-to
unfolding layout
overflow_add-to c = search rules

pub offset_bounds-numbers-from : goal.offset_bounds-numbers-from
unfolding layout
offset_bounds-numbers-from c = search rules

pub returns : goal.returns
returns c = descriptors_listed _ _ _ _ c.requires c.descriptor_base.ensures
