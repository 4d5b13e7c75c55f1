use Rattle.rules1.specs.Filled.{name_length, name_front}
use Rattle.rules1.proofs.filled.name_in.Goals as goal

pub slice_bounds-result-end : goal.slice_bounds-result-end
slice_bounds-result-end c = name_length _ _ c.requires.1 c.filled.ensures

pub returns : goal.returns
returns c = name_front _ _ c.requires.1 c.filled.ensures
