use borrow.Author.Rules.{rules}
use Rattle.markup.specs.Runs.{ran_start, ran_more, ran_end}
use Rattle.markup.proofs.runs.spaces_end.Goals as goal

pub loop-j-init : goal.loop-j-init
loop-j-init c = search (rules, ran_start)

pub loop-j-preserved : goal.loop-j-preserved
loop-j-preserved c = search (rules, ran_more)

pub returns : goal.returns
returns c = search (rules, ran_end)
