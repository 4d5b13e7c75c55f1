use mathlib.Core.Path.{refl}
use Rattle.onepass.specs.Pass.{parts_from}
use Rattle.onepass.proofs.descriptor.parts.Goals as goal

pub returns : goal.returns
unfolding parts_from
returns c = refl
