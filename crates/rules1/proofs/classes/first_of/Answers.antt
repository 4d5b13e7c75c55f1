use borrow.Author.Rules.{rules}
use Rattle.rules1.specs.Splits.{first_none, first_some}
use Rattle.rules1.proofs.classes.first_of.Goals as goal

pub returns-then-found-eq0 : goal.returns-then-found-eq0
returns-then-found-eq0 c = search (rules, first_none)

pub returns : goal.returns
returns c = search (rules, first_some)
