use borrow.Author.Rules.{rules}
use Rattle.values.specs.Decimals.{digit_low}
use Rattle.values.proofs.with_digit.Goals as goal

pub overflow_sub-b : goal.overflow_sub-b
overflow_sub-b c = search (rules, digit_low)
