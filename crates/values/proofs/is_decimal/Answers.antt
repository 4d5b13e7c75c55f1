use borrow.Author.Rules.{rules}
use Rattle.values.specs.Decimals.{decimal_none, count_start, count_bad, count_over, count_more, count_end}
use mathlib.Core.Path.{sym, ◌∙◌}
use Rattle.values.proofs.is_decimal.Goals as goal

pub returns-then-value-lt1 : goal.returns-then-value-lt1
returns-then-value-lt1 c = search (rules, decimal_none)

pub loop-i-init : goal.loop-i-init
loop-i-init c = search (rules, count_start)

pub returns-then-not-digit : goal.returns-then-not-digit
returns-then-not-digit c = search (rules, count_bad)

pub with_digit-m-requires : goal.with_digit-m-requires
with_digit-m-requires c = (search rules, sym c.is_digit-digit.ensures ∙ c.if-not-digit.false)

pub returns-then-most-m : goal.returns-then-most-m
returns-then-most-m c = search (rules, count_over)

pub loop-i-preserved : goal.loop-i-preserved
loop-i-preserved c = search (rules, count_more)

pub returns : goal.returns
returns c = search (rules, count_end)
