use borrow.Author.Rules.{rules}
use Rattle.gather.specs.Faults.{unless_ok, unless_not}
use Rattle.gather.proofs.faults.fault_unless.Goals as goal

pub returns-then-ok : goal.returns-then-ok
returns-then-ok c = search (rules, unless_ok)

pub returns : goal.returns
returns c = search (rules, unless_not)
