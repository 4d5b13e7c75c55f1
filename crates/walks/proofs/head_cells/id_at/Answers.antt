use borrow.Author.Rules.{rules}
use Rattle.walks.specs.HeadCells.{id_none, id_some}
use Rattle.walks.proofs.head_cells.id_at.Goals as goal

pub returns-then-to-from : goal.returns-then-to-from
returns-then-to-from c = search (rules, id_none)

pub returns : goal.returns
returns c = search (rules, id_some)
