use borrow.Author.Rules.{rules}
use Rattle.elements.specs.Starts.{deep_none}
use Rattle.elements.proofs.starts.lay_deep.Goals as goal

pub returns-in_default : goal.returns-in_default
returns-in_default c = search (rules, deep_none)
