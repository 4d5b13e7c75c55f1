use borrow.Author.Rules.{rules}
use Rattle.write_text.specs.Ends.{close_begin, close_row, close_found, close_turn, close_done, height_less}
use Rattle.write_text.proofs.ends.lay_ends.Goals as goal

pub loop-j-init : goal.loop-j-init
loop-j-init c = search (rules, close_begin)

pub returns-then-j-to : goal.returns-then-j-to
returns-then-j-to c = search (rules, close_found)

pub lay_end-next-requires : goal.lay_end-next-requires
lay_end-next-requires c = search (rules, close_row)

pub row_number-j-requires : goal.row_number-j-requires
row_number-j-requires c = search (rules, close_row)

pub loop-j-smaller : goal.loop-j-smaller
loop-j-smaller c = search (rules, height_less)

pub loop-j-preserved : goal.loop-j-preserved
loop-j-preserved c = search (rules, close_turn)

pub returns : goal.returns
returns c = search (rules, close_done)
