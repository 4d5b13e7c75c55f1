use borrow.Author.Rules.{rules}
use Rattle.markup.specs.Runs.{attribute_quote, attribute_stops}
use Rattle.markup.proofs.leaps.attribute_leap.Goals as goal

pub returns-then-equals-ended : goal.returns-then-equals-ended
returns-then-equals-ended c = search (rules, attribute_quote)

pub returns-else-equals-ended : goal.returns-else-equals-ended
returns-else-equals-ended c = search (rules, attribute_stops)

pub returns-else-j-end : goal.returns-else-j-end
returns-else-j-end c = search (rules, attribute_stops)
