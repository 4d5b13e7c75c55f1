use borrow.Author.Rules.{rules}
use Rattle.markup.specs.Runs.{name_space, name_stops}
use Rattle.markup.proofs.leaps.name_leap.Goals as goal

pub returns-then-space-ended : goal.returns-then-space-ended
returns-then-space-ended c = search (rules, name_space)

pub returns-else-space-ended : goal.returns-else-space-ended
returns-else-space-ended c = search (rules, name_stops)

pub returns-else-j-end : goal.returns-else-j-end
returns-else-j-end c = search (rules, name_stops)
