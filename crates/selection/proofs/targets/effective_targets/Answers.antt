use mathlib.Core.List.{[]}
use mathlib.Core.Path.{ap, ◌∙◌}
use Rattle.follower.specs.Selection.{resolved, effective_targets}
use Rattle.definition.specs.Rows.{fold}
use Rattle.laws.specs.Passes.{pass_begin, pass_turn, pass_done}
use Rattle.selection.specs.History.{add_at}
use Rattle.selection.proofs.targets.effective_targets.Goals as goal

pub loop-i-init : goal.loop-i-init
loop-i-init c = pass_begin _ _ _ _ c.empty-set.ensures

pub row_at-x-requires : goal.row_at-x-requires
row_at-x-requires c = record { rows = c.targets_of-targets.ensures.within; below = c.loop-i-test.true }

pub add_stand_ins-set-requires : goal.add_stand_ins-set-requires
add_stand_ins-set-requires c = record { ready = c.requires.ready; inside = c.row_at-x.ensures.row.below }

pub loop-i-preserved : goal.loop-i-preserved
loop-i-preserved c = pass_turn _ _ _ _ _ _ c.loop-i-test.true c.loop-i.invariant (add_at _ _ _ _ _ _ _ c.add_stand_ins-set.ensures c.stored_at.ensures c.row_at-x.ensures.is)

pub returns : goal.returns
unfolding effective_targets resolved
returns c = pass_done _ _ _ _ _ c.loop-i-test.false c.loop-i.invariant ∙ ap (fold _ []) c.targets_of-targets.ensures.is
