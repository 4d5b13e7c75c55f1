-- `equal`: `==` on slices, in definition's word.
use Rattle.std.proofs.Common.{◌∙◌}
use Rattle.names.specs.Matching.{same_pointwise}
use Rattle.names.proofs.equal.Goals as goal

pub returns : goal.returns
returns c = c.eq.ensures ∙ same_pointwise _ _
