use borrow.Author.Rules.{rules}
use Rattle.walks.specs.Told.{place_is}
use Rattle.walks.proofs.told.place_at.Goals as goal

pub returns : goal.returns
returns c = search (rules, place_is)
