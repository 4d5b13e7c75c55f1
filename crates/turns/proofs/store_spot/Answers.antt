use borrow.Author.Rules.{rules}
use Rattle.turns.specs.Spots.{store_so}
use Rattle.turns.proofs.store_spot.Goals as goal

pub returns : goal.returns
returns c = search (rules, store_so)
