use mathlib.Core.Path.{ap, ◌∙◌}
use native.Mathlib.Omega.{arith}
use Rattle.definition.specs.Rows.{any}
use Rattle.follower.specs.Selection.{matches_at}
use Rattle.definition.specs.Tables.{name_at}
use Rattle.matching.specs.Ready.{slot_ready}
use Rattle.matching.specs.Events.{triggered_none, triggered_by, empty_length}
use Rattle.matching.specs.Descriptors.{any_none, any_one}
use Rattle.matching.proofs.is_triggered.Goals as goal

pub returns-then-event-eq0 : goal.returns-then-event-eq0
returns-then-event-eq0 c = triggered_none _ _ _ c.if-event-eq0.true _ (empty_length _ _ c.descriptors_of-descriptors.ensures.is)

pub returns-then-descriptors-eq0 : goal.returns-then-descriptors-eq0
returns-then-descriptors-eq0 c = triggered_by _ _ _ c.if-event-eq0.false _ (any_none _ _ _ c.descriptors_of-descriptors.ensures.is c.if-descriptors-eq0.true)

pub name_at-requires : goal.name_at-requires
name_at-requires c = record { names = c.descriptors_of-descriptors.ensures.within; below = let l = c.if-descriptors-eq1.true in omega arith }

pub matches_at-requires : goal.matches_at-requires
matches_at-requires c = slot_ready _ _ _ c.requires.compiled c.name_at.ensures.below

pub returns-then-descriptors-eq1 : goal.returns-then-descriptors-eq1
returns-then-descriptors-eq1 c =
    triggered_by _ _ _ c.if-event-eq0.false _
    (any_one _ _ _ _ _ c.descriptors_of-descriptors.ensures.is c.if-descriptors-eq1.true c.name_at.ensures.is c.matches_at.ensures)

pub any_matches-requires : goal.any_matches-requires
any_matches-requires c =
    let d = c.descriptors_of-descriptors.ensures in
    let n = c.if-descriptors-eq0.false in
    record { compiled = c.requires.compiled; within = d.within; some = omega arith; short = d.short }

pub returns : goal.returns
returns c =
    triggered_by _ _ _ c.if-event-eq0.false _ (c.any_matches.ensures ∙ ap (any (matches_at (name_at _) _)) c.descriptors_of-descriptors.ensures.is)
