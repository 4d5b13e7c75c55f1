use borrow.Author.Rules.{rules}
use Rattle.values.specs.Places.{id_among}
use Rattle.values.proofs.noted.is_id.Goals as goal

pub returns : goal.returns
returns c = search (rules, id_among)
