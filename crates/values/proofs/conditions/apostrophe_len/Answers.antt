use borrow.Author.Rules.{rules}
use Rattle.values.specs.Conditions.{quote_none, quote_plain, quote_short, quote_entity, quote_other}
use Rattle.values.proofs.conditions.apostrophe_len.Goals as goal

pub returns-then-value-lt1 : goal.returns-then-value-lt1
returns-then-value-lt1 c = search (rules, quote_none)

pub returns-then-plain : goal.returns-then-plain
returns-then-plain c = search (rules, quote_plain)

pub returns-then-value-lt6 : goal.returns-then-value-lt6
returns-then-value-lt6 c = search (rules, quote_short)

pub returns-then-entity : goal.returns-then-entity
returns-then-entity c = search (rules, quote_entity)

pub returns : goal.returns
returns c = search (rules, quote_other)
