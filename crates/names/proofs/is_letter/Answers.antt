-- `is_letter`: the two ranges of letters.
use Rattle.definition.specs.Names.{is_letter}
use Rattle.names.proofs.is_letter.Goals as goal

pub returns : goal.returns
unfolding is_letter
returns c = cc
