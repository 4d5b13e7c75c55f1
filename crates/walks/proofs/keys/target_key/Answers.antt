use borrow.Author.Rules.{rules}
use Rattle.walks.specs.Keys.{target_here, target_none}
use Rattle.walks.proofs.keys.target_key.Goals as goal

pub returns-then-r-t : goal.returns-then-r-t
returns-then-r-t c = search (rules, target_here)

pub returns : goal.returns
returns c = search (rules, target_none)
