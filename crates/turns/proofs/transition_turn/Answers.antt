use borrow.Author.Rules.{rules}
use Rattle.turns.specs.Spots.{transition_own, transition_default}
use Rattle.turns.proofs.transition_turn.Goals as goal

pub returns-then-not-default : goal.returns-then-not-default
returns-then-not-default c = search (rules, transition_own)

pub returns : goal.returns
returns c = search (rules, transition_default)
