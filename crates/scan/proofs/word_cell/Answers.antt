use Rattle.grammar.specs.Tables.{words}
use Rattle.scan.proofs.word_cell.Goals as goal

pub returns : goal.returns
unfolding words
returns c = c.cell.ensures
