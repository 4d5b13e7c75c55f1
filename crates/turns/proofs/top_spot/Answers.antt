use borrow.Author.Rules.{rules}
use Rattle.turns.specs.Spots.{top_none, top_some}
use Rattle.turns.proofs.top_spot.Goals as goal

pub returns-then-depth-eq0 : goal.returns-then-depth-eq0
returns-then-depth-eq0 c = search (rules, top_none)

pub returns : goal.returns
returns c = search (rules, top_some)
