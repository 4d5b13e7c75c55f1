use borrow.Author.Rules.{rules}
use Rattle.walks.specs.HeadCells.{internal_so, external_so}
use Rattle.walks.proofs.head_cells.internal_at.Goals as goal

pub returns-then-inside : goal.returns-then-inside
returns-then-inside c = search (rules, internal_so)

pub returns : goal.returns
returns c = search (rules, external_so)
