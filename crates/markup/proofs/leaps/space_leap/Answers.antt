use borrow.Author.Rules.{rules}
use Rattle.markup.specs.Runs.{space_name, space_stops}
use Rattle.markup.proofs.leaps.space_leap.Goals as goal

pub returns-then-a-ne4 : goal.returns-then-a-ne4
returns-then-a-ne4 c = search (rules, space_name)

pub returns-else-a-ne4 : goal.returns-else-a-ne4
returns-else-a-ne4 c = search (rules, space_stops)

pub returns-else-named : goal.returns-else-named
returns-else-named c = search (rules, space_stops)

pub returns-else-j-end : goal.returns-else-j-end
returns-else-j-end c = search (rules, space_stops)
