use borrow.Author.Rules.{rules}
use Rattle.markup.specs.Runs.{value_stops}
use Rattle.markup.proofs.leaps.value_leap.Goals as goal

pub returns : goal.returns
returns c = search (rules, value_stops)
