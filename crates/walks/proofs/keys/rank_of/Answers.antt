use borrow.Author.Rules.{rules}
use Rattle.walks.specs.Keys.{rank_none}
use Rattle.walks.proofs.keys.rank_of.Goals as goal

pub returns : goal.returns
returns c = search (rules, rank_none)
