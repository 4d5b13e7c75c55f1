use borrow.Author.Rules.{rules}
use Rattle.markup.specs.Runs.{content_stops}
use Rattle.markup.proofs.leaps.content_leap.Goals as goal

pub returns : goal.returns
returns c = search (rules, content_stops)
