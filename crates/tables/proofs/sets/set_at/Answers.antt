use mathlib.Core.Path.{refl}
use Rattle.tables.specs.Parts.{row_set_at}
use Rattle.tables.proofs.sets.set_at.Goals as goal

pub returns : goal.returns
unfolding row_set_at
returns c = refl
