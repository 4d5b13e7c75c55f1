use borrow.Author.Rules.{rules}
use Rattle.markup.specs.Runs.{block_none, block_start, block_more, block_all}
use Rattle.markup.proofs.runs.all_in_comment.Goals as goal

pub returns-then-left-lt32 : goal.returns-then-left-lt32
returns-then-left-lt32 c = search (rules, block_none)

pub loop-k-init : goal.loop-k-init
loop-k-init c = search (rules, block_start)

pub loop-k-preserved : goal.loop-k-preserved
loop-k-preserved c = search (rules, block_more)

pub returns : goal.returns
returns c = search (rules, block_all)
