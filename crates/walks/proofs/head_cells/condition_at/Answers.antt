use borrow.Author.Rules.{rules}
use Rattle.walks.specs.HeadCells.{condition_none, condition_some}
use Rattle.walks.proofs.head_cells.condition_at.Goals as goal

pub returns-then-not-stated : goal.returns-then-not-stated
returns-then-not-stated c = search (rules, condition_none)

pub returns : goal.returns
returns c = search (rules, condition_some)
