use mathlib.Core.List.{[]}
use Rattle.effects.specs.Trace.{places}
use Rattle.microstep.specs.Plan.{exits_room, taken_room, entries_room, plan_wrote}
use Rattle.microstep.proofs.planning.plan_effects.Goals as goal

pub exit_effects-left-requires : goal.exit_effects-left-requires
exit_effects-left-requires c = (c.requires.0.ready.tables, c.requires.0.out, exits_room _ _ (λ x. x) _ (places [] []) _ c.requires.0 c.requires.1 c.requires.3)

pub transition_effects-taken-requires : goal.transition_effects-taken-requires
transition_effects-taken-requires c = (c.requires.0.ready.tables, c.requires.1, c.requires.2, taken_room _ _ _ _ _ _ c.requires.0 c.requires.1 c.requires.3 _ _ c.exit_effects-left.ensures)

pub entry_effects-requires : goal.entry_effects-requires
entry_effects-requires c = (c.requires.0.ready, c.requires.0.set, c.requires.0.fallen, entries_room _ _ _ _ _ _ c.requires.0 c.requires.1 c.requires.3 _ _ c.exit_effects-left.ensures _ _ c.transition_effects-taken.ensures)

pub returns : goal.returns
returns c = plan_wrote _ _ _ _ _ _ c.requires.0 c.requires.1 c.requires.3 _ _ c.exit_effects-left.ensures _ _ c.transition_effects-taken.ensures _ _ c.entry_effects.ensures
