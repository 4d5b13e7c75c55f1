use borrow.Author.Rules.{rules}
use Rattle.markup.specs.Runs.{value_start, value_more, value_done}
use Rattle.markup.proofs.runs.value_end.Goals as goal

pub loop-j-init : goal.loop-j-init
loop-j-init c = search (rules, value_start)

pub loop-j-preserved : goal.loop-j-preserved
loop-j-preserved c = search (rules, value_more)

pub returns : goal.returns
returns c = search (rules, value_done)
