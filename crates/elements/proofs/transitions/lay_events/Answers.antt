use borrow.Author.Rules.{rules}
use Rattle.elements.specs.Transitions.{transition_in_lem, events_ready, events_laid}
use Rattle.elements.proofs.transitions.lay_events.Goals as goal

pub descriptors_of-events-requires : goal.descriptors_of-events-requires
descriptors_of-events-requires c = search (rules, transition_in_lem)

pub lay_list-requires : goal.lay_list-requires
lay_list-requires c = search (rules, events_ready)

pub returns : goal.returns
returns c = search (rules, events_laid)
