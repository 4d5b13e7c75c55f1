use borrow.Author.Rules.{rules}
use Rattle.elements.specs.Transitions.{block_ready, rest_laid}
use Rattle.elements.proofs.transitions.lay_rest.Goals as goal

pub lay_inside-requires : goal.lay_inside-requires
lay_inside-requires c = search (rules, block_ready)

pub returns : goal.returns
returns c = search (rules, rest_laid)
