use borrow.Author.Rules.{rules}
use Rattle.gather.specs.Faults.{missing_so}
use Rattle.gather.proofs.faults.missing_fault.Goals as goal

pub returns : goal.returns
returns c = search (rules, missing_so)
