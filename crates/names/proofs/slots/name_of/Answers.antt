-- `name_of`: the slot's front.
use Rattle.names.specs.Slots.{front_length, front_before}
use Rattle.names.proofs.slots.name_of.Goals as goal

pub slice_bounds-result-end : goal.slice_bounds-result-end
slice_bounds-result-end c = front_length _ _ c.name_len-n.ensures

pub returns : goal.returns
returns c = front_before _ _ c.name_len-n.ensures
