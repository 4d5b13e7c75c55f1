use borrow.Author.Rules.{rules}
use Rattle.walks.specs.Heads.{head_type, head_id, row_out, row_second, row_third, row_in_lem}
use Rattle.walks.proofs.heads.lay_row.Goals as goal

pub returns-then-n-i : goal.returns-then-n-i
returns-then-n-i c = search (rules, row_out)

pub kind_at-requires : goal.kind_at-requires
kind_at-requires c = search (rules, head_type)

pub bounds-out-at-2 : goal.bounds-out-at-2
bounds-out-at-2 c = search (rules, row_second)

pub id_at-requires : goal.id_at-requires
id_at-requires c = search (rules, head_id)

pub bounds-out-at-3 : goal.bounds-out-at-3
bounds-out-at-3 c = search (rules, row_third)

pub returns : goal.returns
returns c = search (rules, row_in_lem)
