use borrow.Author.Rules.{rules}
use Rattle.walks.specs.HeadCells.{other_internal, other_deep}
use Rattle.walks.proofs.head_cells.is_other.Goals as goal

pub returns-in-External : goal.returns-in-External
returns-in-External c = search (rules, other_internal)

pub returns-in-Shallow : goal.returns-in-Shallow
returns-in-Shallow c = search (rules, other_deep)
