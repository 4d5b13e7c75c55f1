use borrow.Author.Rules.{rules}
use Rattle.walks.specs.HeadCells.{kind_own, kind_deep, kind_shallow}
use Rattle.walks.proofs.head_cells.kind_at.Goals as goal

pub returns-then-not-history : goal.returns-then-not-history
returns-then-not-history c = search (rules, kind_own)

pub returns-then-deep : goal.returns-then-deep
returns-then-deep c = search (rules, kind_deep)

pub returns : goal.returns
returns c = search (rules, kind_shallow)
