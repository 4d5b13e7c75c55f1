use borrow.Author.Rules.{rules}
use Rattle.values.specs.Places.{look_keys, look_head, look_start, look_node, look_threes, look_deep, look_link, look_more, look_found, look_end}
use Rattle.values.proofs.noted.place_of.Goals as goal

pub overflow_sub-end : goal.overflow_sub-end
overflow_sub-end c = search (rules, look_keys)

pub number_at-x-requires : goal.number_at-x-requires
number_at-x-requires c = search (rules, look_head)

pub loop-x-init : goal.loop-x-init
loop-x-init c = search (rules, look_start)

pub is_root-requires : goal.is_root-requires
is_root-requires c = search (rules, look_node)

pub returns-then-is_root : goal.returns-then-is_root
returns-then-is_root c = search (rules, look_found)

pub overflow_mul-x : goal.overflow_mul-x
overflow_mul-x c = search (rules, look_threes)

pub overflow_sub-end-in-loop-x : goal.overflow_sub-end-in-loop-x
overflow_sub-end-in-loop-x c = search (rules, look_threes)

pub overflow_add-end-in-loop-x : goal.overflow_add-end-in-loop-x
overflow_add-end-in-loop-x c = search (rules, look_link)

pub number_at-x-requires-in-loop-x : goal.number_at-x-requires-in-loop-x
number_at-x-requires-in-loop-x c = search (rules, look_link)

pub overflow_add-depth : goal.overflow_add-depth
overflow_add-depth c = search (rules, look_deep)

pub loop-x-smaller : goal.loop-x-smaller
loop-x-smaller c = search (rules, look_deep)

pub loop-x-preserved : goal.loop-x-preserved
loop-x-preserved c = search (rules, look_more)

pub returns : goal.returns
returns c = search (rules, look_end)
