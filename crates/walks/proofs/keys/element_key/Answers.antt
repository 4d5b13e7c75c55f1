use borrow.Author.Rules.{rules}
use Rattle.walks.specs.Keys.{element_here, element_none}
use Rattle.walks.proofs.keys.element_key.Goals as goal

pub returns-then-i-n : goal.returns-then-i-n
returns-then-i-n c = search (rules, element_here)

pub returns : goal.returns
returns c = search (rules, element_none)
