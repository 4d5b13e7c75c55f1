use Rattle.lookup.specs.Words.{word_in}
use Rattle.lookup.proofs.word_at.Goals as goal

pub returns : goal.returns
unfolding word_in
returns c = rw (c.from.ensures, c.from-2.ensures, c.from-3.ensures, c.from-4.ensures)
