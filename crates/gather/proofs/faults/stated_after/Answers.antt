use borrow.Author.Rules.{rules}
use Rattle.gather.specs.Faults.{stated_value}
use Rattle.gather.proofs.faults.stated_after.Goals as goal

pub returns-in-Valued : goal.returns-in-Valued
returns-in-Valued c = search (rules, stated_value)
