use Rattle.grammar.specs.Tables.{words}
use Rattle.grammar.specs.Grammar.{word_byte}
use Rattle.scan.proofs.word_byte.Goals as goal

pub returns : goal.returns
unfolding words word_byte
returns c = rw (c.cell_at.ensures, c.from.ensures) at c.word_cell.ensures
