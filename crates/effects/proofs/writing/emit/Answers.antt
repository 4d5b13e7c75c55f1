use mathlib.Core.Path.{refl}
use Rattle.effects.specs.Kinds.{shown}
use Rattle.effects.proofs.writing.emit.Goals as goal

pub returns : goal.returns
returns c = shown _ _ _ _ _ _ c.requires.0 c.put.ensures refl c.requires.1 refl refl

pub shape_of-trace : goal.shape_of-trace
shape_of-trace c = (returns c).size
