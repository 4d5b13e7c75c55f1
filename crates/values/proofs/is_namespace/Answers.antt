use borrow.Author.Rules.{rules}
use Rattle.values.specs.Plain.{namespace_so}
use Rattle.values.proofs.is_namespace.Goals as goal

pub returns : goal.returns
returns c = search (rules, namespace_so)
