use borrow.Author.Rules.{rules}
use Rattle.values.specs.Spots.{planted_keys, go_head, go_start, go_threes, go_deep, go_link, go_more, go_end}
use Rattle.values.proofs.noted.spot_of.Goals as goal

pub overflow_sub-end : goal.overflow_sub-end
overflow_sub-end c = search (rules, planted_keys)

pub number_at-x-requires : goal.number_at-x-requires
number_at-x-requires c = search (rules, go_head)

pub loop-x-init : goal.loop-x-init
loop-x-init c = search (rules, go_start)

pub overflow_sub-spot : goal.overflow_sub-spot
overflow_sub-spot c = search (rules, go_threes)

pub overflow_add-spot-in-loop-x : goal.overflow_add-spot-in-loop-x
overflow_add-spot-in-loop-x c = search (rules, go_link)

pub number_at-x-requires-in-loop-x : goal.number_at-x-requires-in-loop-x
number_at-x-requires-in-loop-x c = search (rules, go_link)

pub overflow_add-depth : goal.overflow_add-depth
overflow_add-depth c = search (rules, go_deep)

pub loop-x-smaller : goal.loop-x-smaller
loop-x-smaller c = search (rules, go_deep)

pub loop-x-preserved : goal.loop-x-preserved
loop-x-preserved c = search (rules, go_more)

pub returns : goal.returns
returns c = search (rules, go_end)
