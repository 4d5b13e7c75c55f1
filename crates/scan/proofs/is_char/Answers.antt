use mathlib.Core.Path.{refl}
use Rattle.grammar.specs.Grammar.{is_char}
use Rattle.scan.proofs.is_char.Goals as goal

pub returns : goal.returns
unfolding is_char
returns c = refl
