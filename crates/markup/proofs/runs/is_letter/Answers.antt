use mathlib.Core.Path.{refl}
use Rattle.markup.specs.Runs.{is_letter}
use Rattle.markup.proofs.runs.is_letter.Goals as goal

pub returns : goal.returns
unfolding is_letter
returns c = rw (c.word_byte.ensures, c.is_char.ensures) refl
