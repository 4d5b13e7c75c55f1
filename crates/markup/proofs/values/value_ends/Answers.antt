use mathlib.Core.Path.{refl}
use Rattle.grammar.specs.Grammar.{value_ends}
use Rattle.markup.proofs.values.value_ends.Goals as goal

pub returns : goal.returns
unfolding value_ends
returns c = refl
