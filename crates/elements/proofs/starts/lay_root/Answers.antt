use borrow.Author.Rules.{rules}
use Rattle.elements.specs.Starts.{root_none, root_some}
use Rattle.elements.proofs.starts.lay_root.Goals as goal

pub returns-then-not-is_root : goal.returns-then-not-is_root
returns-then-not-is_root c = search (rules, root_none)

pub returns : goal.returns
returns c = search (rules, root_some)
