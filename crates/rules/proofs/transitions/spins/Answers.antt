use Rattle.rules.specs.Transitions.{spins_events, spins_nowhere, spins_condition, spins_source}
use Rattle.rules.proofs.transitions.spins.Goals as goal

pub returns-then-descriptors-ne0 : goal.returns-then-descriptors-ne0
returns-then-descriptors-ne0 c = spins_events _ _ _ c.descriptors_of-descriptors.ensures.is c.if-descriptors-ne0.true

pub returns-then-targets-eq0 : goal.returns-then-targets-eq0
returns-then-targets-eq0 c = spins_nowhere _ _ _ c.descriptors_of-descriptors.ensures.is c.if-descriptors-ne0.false _ c.targets_of-targets.ensures.is c.if-targets-eq0.true

pub returns-in-None : goal.returns-in-None
returns-in-None c =
    let events = c.descriptors_of-descriptors.ensures.is in
    let targets = c.targets_of-targets.ensures.is in
    spins_source _ _ _ events c.if-descriptors-ne0.false _ targets c.if-targets-eq0.false _ c.condition_of.ensures _ _ c.in-None.is c.source_of.ensures.is c.has_row.ensures

pub returns-in-Some : goal.returns-in-Some
returns-in-Some c =
    let events = c.descriptors_of-descriptors.ensures.is in
    let targets = c.targets_of-targets.ensures.is in
    spins_condition _ _ _ events c.if-descriptors-ne0.false _ targets c.if-targets-eq0.false _ c.condition_of.ensures _ c.in-Some.is
