use mathlib.Core.List.{[]}
use mathlib.Core.Path.{refl, ap, ◌∙◌}
use Rattle.definition.specs.Rows.{fold}
use Rattle.follower.specs.Selection.{resolved, effective_targets}
use Rattle.laws.specs.Passes.{pass_begin, pass_turn, pass_done}
use Rattle.microstep.specs.Stored.{stand_in}
use Rattle.microstep.proofs.targets.effective_after.Goals as goal

pub targets_of-targets-requires : goal.targets_of-targets-requires
targets_of-targets-requires c = record { tables = c.requires.round.store.ready.tables; below = c.requires.inside }

pub loop-i-init : goal.loop-i-init
loop-i-init c = pass_begin _ _ _ _ c.empty-set.ensures

pub row_at-x-requires : goal.row_at-x-requires
row_at-x-requires c = record { rows = c.targets_of-targets.ensures.within; below = c.loop-i-test.true }

pub stored_after-kept-requires : goal.stored_after-kept-requires
stored_after-kept-requires c = (c.requires.round, c.row_at-x.ensures.row.below)

pub add_stand_ins-set-requires : goal.add_stand_ins-set-requires
add_stand_ins-set-requires c = record { ready = c.requires.round.store.ready; inside = c.row_at-x.ensures.row.below }

pub loop-i-preserved : goal.loop-i-preserved
loop-i-preserved c = pass_turn _ _ _ _ _ _ c.loop-i-test.true c.loop-i.invariant (stand_in _ _ c.stored_after-kept.ensures _ _ _ _ _ _ refl c.add_stand_ins-set.ensures c.row_at-x.ensures.is)

pub returns : goal.returns
unfolding effective_targets resolved
returns c = pass_done _ _ _ _ _ c.loop-i-test.false c.loop-i.invariant ∙ ap (fold _ []) c.targets_of-targets.ensures.is
