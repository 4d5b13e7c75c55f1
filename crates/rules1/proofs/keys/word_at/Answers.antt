-- `word_at`: byte after byte, as they were read.
use Rattle.rules1.specs.Keys.{word_at}
use Rattle.rules1.proofs.keys.word_at.Goals as goal

pub returns : goal.returns
unfolding word_at
returns c = rw (c.byte_at-8.ensures, c.byte_at-7.ensures, c.byte_at-6.ensures, c.byte_at-5.ensures, c.byte_at-4.ensures, c.byte_at-3.ensures, c.byte_at-2.ensures, c.byte_at.ensures)
