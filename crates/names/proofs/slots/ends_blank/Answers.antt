use Rattle.names.specs.Slots.{before_inside, rest_zeros}
use Rattle.names.specs.Blank.{filled_ends}
use Rattle.names.proofs.slots.ends_blank.Goals as goal

pub slice_bounds-is_blank-start : goal.slice_bounds-is_blank-start
slice_bounds-is_blank-start c = before_inside _ _ c.requires

pub returns-then-slot-eq-SLOT_BYTES : goal.returns-then-slot-eq-SLOT_BYTES
returns-then-slot-eq-SLOT_BYTES c = filled_ends _ _ _ c.requires c.filled.ensures

pub slice_bounds-is_blank-count : goal.slice_bounds-is_blank-count
slice_bounds-is_blank-count c = before_inside _ _ c.requires

pub returns : goal.returns
returns c = rest_zeros _ _ c.requires _ c.is_blank.ensures
