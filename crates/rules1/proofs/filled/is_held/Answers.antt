use mathlib.Core.Path.{refl}
use Rattle.definition.specs.Names.{is_letter, is_name_byte}
use Rattle.rules1.specs.Filled.{is_held}
use Rattle.rules1.proofs.filled.is_held.Goals as goal

pub returns : goal.returns
unfolding is_held is_name_byte is_letter
returns c = refl
