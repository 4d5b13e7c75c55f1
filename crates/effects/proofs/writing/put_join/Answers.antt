use Rattle.effects.specs.Putting.{join_put, join_over}
use Rattle.effects.proofs.writing.put_join.Goals as goal

pub returns-then-k-lt-JOINS : goal.returns-then-k-lt-JOINS
returns-then-k-lt-JOINS c = join_put _ _ _ _ c.if-k-lt-JOINS.true c.put.ensures

pub returns-else-k-lt-JOINS : goal.returns-else-k-lt-JOINS
returns-else-k-lt-JOINS c = join_over _ _ _ c.if-k-lt-JOINS.false
