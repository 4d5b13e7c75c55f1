use Rattle.laws.specs.Loops.{said_not_yes, said_not_no}
use Rattle.chart.specs.Own.{compiled_ready}
use Rattle.session.specs.Posting.{post_bad_chart, post_good_chart}
use mathlib.Core.Bool.{not}
use mathlib.Core.Path.{ap}
use Rattle.session.proofs.Session.post.Goals as goal

pub returns-then-not-check : goal.returns-then-not-check
returns-then-not-check c = post_bad_chart _ _ _ _ (said_not_yes _ _ c.check.ensures (ap not c.if-not-check.true))

pub post_checked-requires : goal.post_checked-requires
post_checked-requires c = (compiled_ready _ _ (said_not_no _ _ c.check.ensures (ap not c.if-not-check.false))).ready

pub returns : goal.returns
returns c = post_good_chart _ _ _ _ (said_not_no _ _ c.check.ensures (ap not c.if-not-check.false)) _ c.post_checked.ensures
