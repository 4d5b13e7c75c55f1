use borrow.Author.Rules.{rules}
use Rattle.marks.specs.Strides.{stride_none, stride_leap}
use Rattle.marks.proofs.stride.Goals as goal

pub returns-then-not-is_calm : goal.returns-then-not-is_calm
returns-then-not-is_calm c = search (rules, stride_none)

pub returns-then-l-i : goal.returns-then-l-i
returns-then-l-i c = search (rules, stride_none)

pub returns : goal.returns
returns c = search (rules, stride_leap)
