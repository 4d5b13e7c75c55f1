use borrow.Author.Rules.{rules}
use Rattle.gather.specs.Faults.{fault_start, fault_end, fault_inside, fault_less, fault_more}
use Rattle.gather.proofs.faults.first_fault.Goals as goal

pub loop-pending-init : goal.loop-pending-init
loop-pending-init c = search (rules, fault_start)

pub returns-then-not-is_mark : goal.returns-then-not-is_mark
returns-then-not-is_mark c = search (rules, fault_end)

pub pending_after-pending-requires : goal.pending_after-pending-requires
pending_after-pending-requires c = search (rules, fault_inside)

pub loop-pending-smaller : goal.loop-pending-smaller
loop-pending-smaller c = search (rules, fault_less)

pub loop-pending-preserved : goal.loop-pending-preserved
loop-pending-preserved c = fault_more _ _ _ _ _ _ _ _ _ c.requires c.loop-pending.invariant _ _ c.next_mark-next.ensures _ _ _ _ _ c.is_mark.ensures c.if-not-is_mark.false c.tag_fault-here.ensures c.sooner-first.ensures c.pending_after-pending.ensures c.stated_after-stated.ensures
