use borrow.Author.Rules.{rules}
use Rattle.markup.specs.Runs.{comment_stops}
use Rattle.markup.proofs.leaps.comment_leap.Goals as goal

pub returns : goal.returns
returns c = search (rules, comment_stops)
