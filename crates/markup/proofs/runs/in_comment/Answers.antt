use mathlib.Core.Path.{refl}
use Rattle.markup.specs.Runs.{in_comment}
use Rattle.markup.proofs.runs.in_comment.Goals as goal

pub returns : goal.returns
unfolding in_comment
returns c = rw c.is_char.ensures refl
