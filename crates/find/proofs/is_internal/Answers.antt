use borrow.Author.Rules.{rules}
use Rattle.find.specs.Types.{internal_so}
use Rattle.find.proofs.is_internal.Goals as goal

pub returns : goal.returns
returns c = search (rules, internal_so)
