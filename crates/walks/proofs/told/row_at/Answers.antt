use borrow.Author.Rules.{rules}
use Rattle.walks.specs.Told.{cond_room, cond_row}
use Rattle.walks.proofs.told.row_at.Goals as goal

pub row_in-requires : goal.row_in-requires
row_in-requires c = search (rules, cond_room)

pub returns : goal.returns
returns c = search (rules, cond_row)
