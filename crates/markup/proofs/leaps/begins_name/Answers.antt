use mathlib.Core.Path.{refl}
use Rattle.markup.specs.Runs.{begins_name}
use Rattle.markup.proofs.leaps.begins_name.Goals as goal

pub returns : goal.returns
unfolding begins_name
returns c = rw (c.is_token.ensures, c.is_char.ensures) refl
