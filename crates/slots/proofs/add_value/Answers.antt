use borrow.Author.Rules.{rules}
use Rattle.slots.specs.Slots.{value_use, value_other}
use Rattle.slots.proofs.add_value.Goals as goal

pub returns-then-is_use : goal.returns-then-is_use
returns-then-is_use c = search (rules, value_use)

pub returns : goal.returns
returns c = search (rules, value_other)
