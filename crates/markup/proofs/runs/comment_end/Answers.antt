use borrow.Author.Rules.{rules}
use Rattle.markup.specs.Runs.{ran_start, ran_then, ran_block, block_short}
use Rattle.markup.proofs.runs.comment_end.Goals as goal

pub loop-j-init : goal.loop-j-init
loop-j-init c = search (rules, ran_start)

pub returns-then-not-all : goal.returns-then-not-all
returns-then-not-all c = search (rules, ran_then)

pub overflow_add-j : goal.overflow_add-j
overflow_add-j c = search (rules, block_short)

pub loop-j-preserved : goal.loop-j-preserved
loop-j-preserved c = search (rules, ran_block)
