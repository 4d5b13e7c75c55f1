use borrow.Author.Rules.{rules}
use Rattle.values.specs.Items.{spread_start, spread_stop, spread_more, spread_end}
use Rattle.values.proofs.item_end.Goals as goal

pub loop-j-init : goal.loop-j-init
loop-j-init c = search (rules, spread_start)

pub returns-then-is_space : goal.returns-then-is_space
returns-then-is_space c = search (rules, spread_stop)

pub loop-j-preserved : goal.loop-j-preserved
loop-j-preserved c = search (rules, spread_more)

pub returns : goal.returns
returns c = search (rules, spread_end)
