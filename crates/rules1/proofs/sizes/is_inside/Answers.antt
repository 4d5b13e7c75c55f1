use borrow.Author.Rules.{rules}
use Rattle.rules1.specs.Inside.{inside_long, inside_start}
use Rattle.rules1.proofs.sizes.is_inside.Goals as goal

pub returns-then-total-count : goal.returns-then-total-count
returns-then-total-count c = search (rules, inside_long)

pub returns : goal.returns
returns c = search (rules, inside_start)
