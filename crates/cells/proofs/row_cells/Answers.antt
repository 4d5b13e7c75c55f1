use borrow.Author.Rules.{rules}
use Rattle.cells.specs.Parts.{rows_begin, rows_room_lem, rows_turn, rows_end}
use Rattle.cells.proofs.row_cells.Goals as goal

pub loop-i-init : goal.loop-i-init
loop-i-init c = search (rules, rows_begin)

pub lay_row-requires : goal.lay_row-requires
lay_row-requires c = search (rules, rows_room_lem)

pub loop-i-preserved : goal.loop-i-preserved
loop-i-preserved c = search (rules, rows_turn)

pub returns : goal.returns
returns c = search (rules, rows_end)
