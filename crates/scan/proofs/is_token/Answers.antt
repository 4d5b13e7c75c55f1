use mathlib.Core.Path.{refl}
use Rattle.grammar.specs.Grammar.{is_token}
use Rattle.scan.proofs.is_token.Goals as goal

pub returns : goal.returns
unfolding is_token
returns c = refl
