use borrow.Author.Rules.{rules}
use Rattle.walks.specs.Keys.{descriptor_here, descriptor_none}
use Rattle.walks.proofs.keys.descriptor_key.Goals as goal

pub returns-then-r-t : goal.returns-then-r-t
returns-then-r-t c = search (rules, descriptor_here)

pub returns : goal.returns
returns c = search (rules, descriptor_none)
