use borrow.Author.Rules.{rules}
use Rattle.values.specs.Ids.{other_length, other_last}
use Rattle.values.proofs.noted.is_at.Goals as goal

pub returns-then-long-name : goal.returns-then-long-name
returns-then-long-name c = search (rules, other_length)

pub returns-then-text-to : goal.returns-then-text-to
returns-then-text-to c = search (rules, other_last)
