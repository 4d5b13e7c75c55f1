use borrow.Author.Rules.{rules}
use Rattle.spell.specs.Lists.{list_none, list_some}
use Rattle.spell.proofs.lists.lay_list.Goals as goal

pub returns-then-is_empty : goal.returns-then-is_empty
returns-then-is_empty c = search (rules, list_none)

pub returns : goal.returns
returns c = search (rules, list_some)
