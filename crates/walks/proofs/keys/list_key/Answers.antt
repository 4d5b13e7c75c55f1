use borrow.Author.Rules.{rules}
use Rattle.walks.specs.Keys.{list_here, list_none}
use Rattle.walks.proofs.keys.list_key.Goals as goal

pub returns-then-i-n : goal.returns-then-i-n
returns-then-i-n c = search (rules, list_here)

pub returns : goal.returns
returns c = search (rules, list_none)
