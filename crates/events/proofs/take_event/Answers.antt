use Rattle.events.specs.Left.{left_nothing, left_eventless, left_internal, left_external}
use Rattle.events.proofs.take_event.Goals as goal

pub take_oldest-requires : goal.take_oldest-requires
take_oldest-requires c = c.requires.inner c.in-Internal.is

pub take_oldest-requires-in-External : goal.take_oldest-requires-in-External
take_oldest-requires-in-External c = c.requires.outer c.in-External.is

pub returns-in-Nothing : goal.returns-in-Nothing
returns-in-Nothing c = left_nothing _ _ _ c.in-Nothing.is

pub returns-in-Eventless : goal.returns-in-Eventless
returns-in-Eventless c = left_eventless _ _ _ c.in-Eventless.is

pub returns-in-Internal : goal.returns-in-Internal
returns-in-Internal c = left_internal _ _ _ _ c.in-Internal.is c.take_oldest.ensures

pub returns-in-External : goal.returns-in-External
returns-in-External c = left_external _ _ _ _ c.in-External.is c.take_oldest-in-External.ensures
