use Rattle.lookup.specs.Words.{rows_in}
use Rattle.lookup.proofs.rows_at.Goals as goal

pub returns : goal.returns
unfolding rows_in
returns c = rw (c.word_at.ensures, c.word_at-2.ensures, c.word_at-3.ensures, c.word_at-4.ensures)
