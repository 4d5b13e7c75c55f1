use borrow.Author.Rules.{rules}
use Rattle.elements.specs.Lists.{default_list, default_block_lem, default_whole}
use Rattle.elements.proofs.lists.lay_default.Goals as goal

pub lay_list-aimed-requires : goal.lay_list-aimed-requires
lay_list-aimed-requires c = search (rules, default_list)

pub lay_inside-requires : goal.lay_inside-requires
lay_inside-requires c = search (rules, default_block_lem)

pub returns : goal.returns
returns c = search (rules, default_whole)
