use Rattle.effects.specs.Putting.{timer_put, timer_over}
use Rattle.effects.proofs.writing.put_timer.Goals as goal

pub returns-then-skip-k : goal.returns-then-skip-k
returns-then-skip-k c = timer_put _ _ _ _ _ c.skipped-skip.ensures _ _ c.if-skip-k.true c.put.ensures c.put-then-skip-k.ensures

pub returns-else-skip-k : goal.returns-else-skip-k
returns-else-skip-k c = timer_over _ _ _ _ _ c.skipped-skip.ensures c.if-skip-k.false
