use borrow.Author.Rules.{rules}
use Rattle.markup.specs.Runs.{tag_space, tag_stops}
use Rattle.markup.proofs.leaps.tag_leap.Goals as goal

pub returns-then-space : goal.returns-then-space
returns-then-space c = search (rules, tag_space)

pub returns-else-space : goal.returns-else-space
returns-else-space c = search (rules, tag_stops)

pub returns-else-i-end : goal.returns-else-i-end
returns-else-i-end c = search (rules, tag_stops)
