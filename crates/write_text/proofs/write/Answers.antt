use borrow.Author.Rules.{rules}
use Rattle.write_text.specs.Whole.{write_refused, write_ready, write_long, write_small, write_done}
use Rattle.write_text.proofs.write.Goals as goal

pub returns-then-answer-ne0 : goal.returns-then-answer-ne0
returns-then-answer-ne0 c = search (rules, write_refused)

pub lay_rows-length-requires : goal.lay_rows-length-requires
lay_rows-length-requires c = search (rules, write_ready)

pub returns-then-length-gt-LONGEST : goal.returns-then-length-gt-LONGEST
returns-then-length-gt-LONGEST c = search (rules, write_long)

pub returns-then-buffer-length : goal.returns-then-buffer-length
returns-then-buffer-length c = search (rules, write_small)

pub lay_rows-end-requires : goal.lay_rows-end-requires
lay_rows-end-requires c = search (rules, write_ready)

pub returns : goal.returns
returns c = search (rules, write_done)
