use borrow.Author.Rules.{rules}
use Rattle.values.specs.Places.{node_other}
use Rattle.values.proofs.noted.is_root.Goals as goal

pub returns-then-there-tag : goal.returns-then-there-tag
returns-then-there-tag c = search (rules, node_other)
