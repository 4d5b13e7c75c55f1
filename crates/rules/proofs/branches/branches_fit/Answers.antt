use mathlib.Core.Path.{ap}
use mathlib.Core.Bool.{not}
use native.Mathlib.Omega.{arith}
use Rattle.laws.specs.Loops.{said_not_yes, said_not_no}
use Rattle.rules.specs.Branches.{judging_begin, judging_inside, judging_fits, judging_leave, judging_turn, judging_end}
use Rattle.rules.proofs.branches.branches_fit.Goals as goal

pub loop-k-init : goal.loop-k-init
loop-k-init c = judging_begin _ _ _ c.actions_in-n.ensures

pub action_of-action-requires : goal.action_of-action-requires
action_of-action-requires c = record { below = judging_inside _ _ _ c.loop-k.invariant.size c.loop-k-test.true }

pub test_fits-requires : goal.test_fits-requires
test_fits-requires c = (c.requires.0, judging_fits _ _ _ _ _ c.loop-k.invariant c.loop-k-test.true _ c.action_of-action.ensures _ c.requires.1)

pub returns-then-not-test_fits : goal.returns-then-not-test_fits
returns-then-not-test_fits c = judging_leave _ _ _ _ _ c.loop-k.invariant c.loop-k-test.true _ c.action_of-action.ensures (said_not_yes _ _ c.test_fits.ensures (ap not c.if-not-test_fits.true))

pub step-ifs-requires : goal.step-ifs-requires
step-ifs-requires c = let l = c.loop-k.invariant.low in omega arith

pub loop-k-preserved : goal.loop-k-preserved
loop-k-preserved c = judging_turn _ _ _ _ _ c.loop-k.invariant c.loop-k-test.true _ c.action_of-action.ensures _ (said_not_no _ _ c.test_fits.ensures (ap not c.if-not-test_fits.false)) c.step-ifs.ensures

pub returns : goal.returns
returns c = judging_end _ _ _ _ _ c.loop-k.invariant c.loop-k-test.false
