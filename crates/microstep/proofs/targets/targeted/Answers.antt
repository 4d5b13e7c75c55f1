use Rattle.follower.specs.Microstep.{targeted}
use Rattle.laws.specs.Passes.{pass_begin, pass_turn, pass_done}
use Rattle.chart.specs.Within.{within_low}
use Rattle.microstep.proofs.targets.targeted.Goals as goal

pub loop-i-init : goal.loop-i-init
loop-i-init c = pass_begin _ _ _ _ c.empty-set.ensures

pub add_targets_by-set-requires : goal.add_targets_by-set-requires
add_targets_by-set-requires c = (c.requires.0, record { round = c.requires.1; inside = within_low _ _ _ c.requires.2.inside c.loop-i-test.true })

pub loop-i-preserved : goal.loop-i-preserved
loop-i-preserved c = pass_turn _ _ _ _ _ _ c.loop-i-test.true c.loop-i.invariant c.add_targets_by-set.ensures

pub returns : goal.returns
unfolding targeted
returns c = pass_done _ _ _ _ _ c.loop-i-test.false c.loop-i.invariant
