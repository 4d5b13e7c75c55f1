use borrow.Author.Rules.{rules}
use Rattle.find.specs.Digits.{read_start, read_low, read_more, read_end}
use Rattle.find.proofs.decimal_of.Goals as goal

pub loop-b-init : goal.loop-b-init
loop-b-init c = search (rules, read_start)

pub overflow_sub-b : goal.overflow_sub-b
overflow_sub-b c = search (rules, read_low)

pub loop-b-preserved : goal.loop-b-preserved
loop-b-preserved c = search (rules, read_more)

pub returns : goal.returns
returns c = search (rules, read_end)
