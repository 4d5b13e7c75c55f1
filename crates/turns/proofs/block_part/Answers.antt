use borrow.Author.Rules.{rules}
use Rattle.turns.specs.Spots.{part_initial, part_entry, part_exit, part_none}
use Rattle.turns.proofs.block_part.Goals as goal

pub returns-in-5 : goal.returns-in-5
returns-in-5 c = search (rules, part_initial)

pub returns-in-7 : goal.returns-in-7
returns-in-7 c = search (rules, part_entry)

pub returns-in-8 : goal.returns-in-8
returns-in-8 c = search (rules, part_exit)

pub returns-in_default : goal.returns-in_default
returns-in_default c = search (rules, part_none)
