use borrow.Author.Rules.{rules}
use Rattle.walks.specs.Told.{place_none, place_some}
use Rattle.walks.proofs.told.place_or_none.Goals as goal

pub returns-then-not-stated : goal.returns-then-not-stated
returns-then-not-stated c = search (rules, place_none)

pub returns : goal.returns
returns c = search (rules, place_some)
