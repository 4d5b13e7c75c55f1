use borrow.Author.Rules.{rules}
use Rattle.markup.specs.Runs.{end_stops}
use Rattle.markup.proofs.leaps.end_leap.Goals as goal

pub returns : goal.returns
returns c = search (rules, end_stops)
