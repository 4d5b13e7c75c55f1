use borrow.Author.Rules.{rules}
use Rattle.write_text.specs.Rows.{row_bare, row_full}
use Rattle.write_text.proofs.rows.lay_row.Goals as goal

pub returns-then-bare : goal.returns-then-bare
returns-then-bare c = search (rules, row_bare)

pub returns : goal.returns
returns c = search (rules, row_full)
