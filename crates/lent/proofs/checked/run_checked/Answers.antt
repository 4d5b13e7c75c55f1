use Rattle.lent.specs.Runs.{run_8, run_9, run_asks, run_left}
use Rattle.lent.proofs.checked.run_checked.Goals as goal

pub returns-then-not-checks : goal.returns-then-not-checks
returns-then-not-checks c = run_8 _ _ _ _ _ c.requires _ _ c.if-not-checks.true _ c.refused.ensures

pub returns-then-not-checks-2 : goal.returns-then-not-checks-2
returns-then-not-checks-2 c = run_9 _ _ _ _ _ c.requires _ _ c.if-not-checks.false c.if-not-checks-2.true _ c.refused-then-not-checks-2.ensures

pub run-done-requires : goal.run-done-requires
run-done-requires c = run_asks _ _ _ _ _ _ _ c.requires c.if-not-checks.false c.if-not-checks-2.false

pub returns : goal.returns
returns c = run_left _ _ _ _ _ _ _ c.requires c.if-not-checks.false c.if-not-checks-2.false _ _ _ _ _ _ _ _ c.run-done.ensures
