use borrow.Author.Rules.{rules}
use Rattle.values.specs.Conditions.{open_short, open_other, open_bare, open_quoted, opened_fits}
use Rattle.values.proofs.conditions.opened_at.Goals as goal

pub returns-then-value-lt3 : goal.returns-then-value-lt3
returns-then-value-lt3 c = search (rules, open_short)

pub returns-then-not-begins : goal.returns-then-not-begins
returns-then-not-begins c = search (rules, open_other)

pub returns-then-quote-lt1 : goal.returns-then-quote-lt1
returns-then-quote-lt1 c = search (rules, open_bare)

pub overflow_add-result : goal.overflow_add-result
overflow_add-result c = search (rules, opened_fits)

pub returns : goal.returns
returns c = search (rules, open_quoted)
