use borrow.Author.Rules.{rules}
use Rattle.elements.specs.Transitions.{transition_in_lem, targets_ready, targets_laid}
use Rattle.elements.proofs.transitions.lay_targets.Goals as goal

pub targets_of-targets-requires : goal.targets_of-targets-requires
targets_of-targets-requires c = search (rules, transition_in_lem)

pub lay_list-requires : goal.lay_list-requires
lay_list-requires c = search (rules, targets_ready)

pub returns : goal.returns
returns c = search (rules, targets_laid)
