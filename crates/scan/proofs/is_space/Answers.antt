use mathlib.Core.Path.{refl}
use Rattle.grammar.specs.Grammar.{is_space}
use Rattle.scan.proofs.is_space.Goals as goal

pub returns : goal.returns
unfolding is_space
returns c = refl
