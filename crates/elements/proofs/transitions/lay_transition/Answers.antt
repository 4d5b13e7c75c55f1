use borrow.Author.Rules.{rules}
use Rattle.elements.specs.Transitions.{transition_in_lem, transition_laid}
use Rattle.elements.proofs.transitions.lay_transition.Goals as goal

pub lay_type-typed-requires : goal.lay_type-typed-requires
lay_type-typed-requires c = search (rules, transition_in_lem)

pub returns : goal.returns
returns c = search (rules, transition_laid)
