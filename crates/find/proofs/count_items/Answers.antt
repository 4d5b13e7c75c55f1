use borrow.Author.Rules.{rules}
use Rattle.find.specs.Items.{items_start, items_end, items_space, items_less, items_name}
use Rattle.find.proofs.count_items.Goals as goal

pub loop-i-init : goal.loop-i-init
loop-i-init c = search (rules, items_start)

pub loop-i-preserved-then-space : goal.loop-i-preserved-then-space
loop-i-preserved-then-space c = search (rules, items_space)

pub loop-i-smaller : goal.loop-i-smaller
loop-i-smaller c = search (rules, items_less)

pub loop-i-preserved : goal.loop-i-preserved
loop-i-preserved c = search (rules, items_name)

pub returns : goal.returns
returns c = search (rules, items_end)
