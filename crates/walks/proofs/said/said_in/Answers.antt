use borrow.Author.Rules.{rules}
use Rattle.walks.specs.Said.{said_end, said_start}
use Rattle.walks.proofs.said.said_in.Goals as goal

pub returns-then-shape-ge2 : goal.returns-then-shape-ge2
returns-then-shape-ge2 c = search (rules, said_end)

pub returns : goal.returns
returns c = search (rules, said_start)
