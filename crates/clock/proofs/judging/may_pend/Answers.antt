use borrow.Author.Rules.{rules}
use Rattle.follower.specs.Follower.{is_ended}
use Rattle.clock.proofs.judging.may_pend.Goals as goal

pub returns-in-Ended : goal.returns-in-Ended
unfolding is_ended
returns-in-Ended c = search rules

pub returns-in-Running : goal.returns-in-Running
unfolding is_ended
returns-in-Running c = search rules
