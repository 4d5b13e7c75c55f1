use Rattle.rules.specs.Transitions.{use_events, use_targets, use_asked}
use Rattle.rules.proofs.transitions.has_use.Goals as goal

pub returns-then-descriptors-ne0 : goal.returns-then-descriptors-ne0
returns-then-descriptors-ne0 c = use_events _ _ _ c.descriptors_of-descriptors.ensures.is c.if-descriptors-ne0.true

pub returns-then-targets-ne0 : goal.returns-then-targets-ne0
returns-then-targets-ne0 c = use_targets _ _ _ c.descriptors_of-descriptors.ensures.is c.if-descriptors-ne0.false _ c.targets_of-targets.ensures.is c.if-targets-ne0.true

pub returns : goal.returns
returns c = use_asked _ _ _ c.descriptors_of-descriptors.ensures.is c.if-descriptors-ne0.false _ c.targets_of-targets.ensures.is _ _ c.if-targets-ne0.false c.condition_of.ensures c.is_some.ensures
