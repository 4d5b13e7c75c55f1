use borrow.Author.Rules.{rules}
use Rattle.markup.specs.Runs.{word_start, word_more, word_done}
use Rattle.markup.proofs.runs.word_end.Goals as goal

pub loop-j-init : goal.loop-j-init
loop-j-init c = search (rules, word_start)

pub loop-j-preserved : goal.loop-j-preserved
loop-j-preserved c = search (rules, word_more)

pub returns : goal.returns
returns c = search (rules, word_done)
