use borrow.Author.Rules.{rules}
use Rattle.gather.specs.Faults.{pending_value, pending_tag, value_inside}
use Rattle.gather.proofs.faults.pending_after.Goals as goal

pub part_fault-requires : goal.part_fault-requires
part_fault-requires c = search (rules, value_inside)

pub returns-in-Valued : goal.returns-in-Valued
returns-in-Valued c = search (rules, pending_value)

pub returns-in-Tagged : goal.returns-in-Tagged
returns-in-Tagged c = search (rules, pending_tag)
