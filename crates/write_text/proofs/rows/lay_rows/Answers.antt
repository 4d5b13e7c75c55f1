use borrow.Author.Rules.{rules}
use Rattle.write_text.specs.Rows.{rows_begin, rows_tree, rows_ready, rows_turn, rows_end}
use Rattle.write_text.proofs.rows.lay_rows.Goals as goal

pub loop-i-init : goal.loop-i-init
loop-i-init c = search (rules, rows_begin)

pub lay_next-next-requires : goal.lay_next-next-requires
lay_next-next-requires c = search (rules, rows_ready)

pub loop-i-preserved : goal.loop-i-preserved
loop-i-preserved c = search (rules, rows_turn)

pub lay_ends-requires : goal.lay_ends-requires
lay_ends-requires c = search (rules, rows_tree)

pub returns : goal.returns
returns c = search (rules, rows_end)
