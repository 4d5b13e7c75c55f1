use borrow.Author.Rules.{rules}
use Rattle.find.specs.Types.{deep_so}
use Rattle.find.proofs.is_deep.Goals as goal

pub returns : goal.returns
returns c = search (rules, deep_so)
