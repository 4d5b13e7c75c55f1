use borrow.Author.Rules.{rules}
use Rattle.attribute.specs.Laws.{external_part, shallow_part}
use Rattle.attribute.proofs.default_part.Goals as goal

pub returns-in-External : goal.returns-in-External
returns-in-External c = search (rules, external_part)

pub returns-in-Shallow : goal.returns-in-Shallow
returns-in-Shallow c = search (rules, shallow_part)
