use borrow.Author.Rules.{rules}
use Rattle.attribute.specs.Laws.{value_absent, value_stated}
use Rattle.attribute.proofs.attribute_value.Goals as goal

pub returns-then-not-stated : goal.returns-then-not-stated
returns-then-not-stated c = search (rules, value_absent)

pub returns : goal.returns
returns c = search (rules, value_stated)
