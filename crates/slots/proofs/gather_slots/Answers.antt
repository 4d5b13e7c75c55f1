use borrow.Author.Rules.{rules}
use Rattle.slots.specs.Walk.{begun_keys, slots_start, slots_end, slots_both, slots_less, slots_many, slots_more}
use Rattle.slots.proofs.gather_slots.Goals as goal

pub forget-requires : goal.forget-requires
forget-requires c = search (rules, begun_keys)

pub loop-next-init : goal.loop-next-init
loop-next-init c = search (rules, slots_start)

pub returns-then-not-is_mark : goal.returns-then-not-is_mark
returns-then-not-is_mark c = search (rules, slots_end)

pub returns-then-ends-n : goal.returns-then-ends-n
returns-then-ends-n c =
    slots_many _ _ _ _ _ _ c.loop-next.invariant _ _ c.next_mark-next.ensures _ c.is_mark.ensures c.if-not-is_mark.false _ c.ends_tag-ends.ensures _ c.if-ends-n.true

pub add_mark-n-requires : goal.add_mark-n-requires
add_mark-n-requires c =
    slots_both _ _ _ _ _ _ c.loop-next.invariant _ _ c.next_mark-next.ensures

pub loop-next-smaller : goal.loop-next-smaller
loop-next-smaller c = search (rules, slots_less)

pub loop-next-preserved : goal.loop-next-preserved
loop-next-preserved c = search (rules, slots_more)
