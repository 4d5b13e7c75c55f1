use borrow.Author.Rules.{rules}
use Rattle.write_text.specs.Rows.{turn_small, turn_row, turn_tree, turn_run, turn_inner, turn_made}
use Rattle.write_text.proofs.rows.lay_next.Goals as goal

pub overflow_cast-r : goal.overflow_cast-r
overflow_cast-r c = search (rules, turn_small)

pub parent_of-around-requires : goal.parent_of-around-requires
parent_of-around-requires c = search (rules, turn_row)

pub lay_ends-closed-requires : goal.lay_ends-closed-requires
lay_ends-closed-requires c = search (rules, turn_tree)

pub run_end-end-requires : goal.run_end-end-requires
run_end-end-requires c = search (rules, turn_run)

pub is_bare-bare-requires : goal.is_bare-bare-requires
is_bare-bare-requires c = search (rules, turn_row)

pub lay_row-next-requires : goal.lay_row-next-requires
lay_row-next-requires c = search (rules, turn_inner)

pub returns : goal.returns
returns c = search (rules, turn_made)
