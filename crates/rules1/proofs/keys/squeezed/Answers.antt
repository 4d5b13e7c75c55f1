use mathlib.Core.Path.{refl}
use native.Mathlib.Nat.{mod-lt, zero-lt-suc}
use Rattle.rules1.specs.Keys.{squeeze_of}
use Rattle.rules1.proofs.keys.squeezed.Goals as goal

pub returns : goal.returns
unfolding squeeze_of
returns c = (refl, mod-lt _ (zero-lt-suc 1023))
