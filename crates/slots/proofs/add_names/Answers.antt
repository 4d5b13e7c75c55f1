use borrow.Author.Rules.{rules}
use Rattle.slots.specs.Slots.{adding_start, adding_end, adding_inside, adding_at, adding_sum, adding_space, adding_both, adding_to, adding_less, adding_more}
use Rattle.slots.proofs.add_names.Goals as goal

pub loop-i-init : goal.loop-i-init
loop-i-init c = search (rules, adding_start)

pub overflow_add-from : goal.overflow_add-from
overflow_add-from c = search (rules, adding_sum)

pub bounds-text-from : goal.bounds-text-from
bounds-text-from c = search (rules, adding_at)

pub loop-i-preserved-then-is_space : goal.loop-i-preserved-then-is_space
loop-i-preserved-then-is_space c = search (rules, adding_space)

pub item_end-j-requires : goal.item_end-j-requires
item_end-j-requires c = search (rules, adding_inside)

pub overflow_add-from-in-loop-i : goal.overflow_add-from-in-loop-i
overflow_add-from-in-loop-i c = search (rules, adding_sum)

pub overflow_add-from-in-loop-i-2 : goal.overflow_add-from-in-loop-i-2
overflow_add-from-in-loop-i-2 c = search (rules, adding_to)

pub add_name-r-requires : goal.add_name-r-requires
add_name-r-requires c = search (rules, adding_both)

pub loop-i-smaller : goal.loop-i-smaller
loop-i-smaller c = search (rules, adding_less)

pub loop-i-preserved : goal.loop-i-preserved
loop-i-preserved c = search (rules, adding_more)

pub returns : goal.returns
returns c = search (rules, adding_end)
