use borrow.Author.Rules.{rules}
use Rattle.values.specs.Plain.{version_so}
use Rattle.values.proofs.is_version.Goals as goal

pub returns : goal.returns
returns c = search (rules, version_so)
