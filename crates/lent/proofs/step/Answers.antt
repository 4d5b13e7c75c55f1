use Rattle.lent.specs.Lent.{checks_checked, posted_checks}
use Rattle.lent.specs.Runs.{step_is}
use Rattle.lent.proofs.step.Goals as goal

pub post_checked-answer-requires : goal.post_checked-answer-requires
post_checked-answer-requires c = checks_checked _ _ _ _ _ c.check-checks.ensures

pub run_checked-ran-requires : goal.run_checked-ran-requires
run_checked-ran-requires c = posted_checks _ _ _ _ _ _ c.check-checks.ensures _ _ c.post_checked-answer.ensures

pub returns : goal.returns
returns c = step_is _ _ _ _ _ _ _ c.post_checked-answer.ensures _ _ _ _ _ c.run_checked-ran.result c.run_checked-ran.ensures.0 c.run_checked-ran.ensures.1
