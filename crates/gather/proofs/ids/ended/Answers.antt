use borrow.Author.Rules.{rules}
use Rattle.gather.specs.Ended.{ended_dead, ended_live, ended_index}
use Rattle.gather.proofs.ids.ended.Goals as goal

pub overflow_sub-result : goal.overflow_sub-result
overflow_sub-result c = search (rules, ended_index)

pub returns-in-None : goal.returns-in-None
returns-in-None c = search (rules, ended_dead)

pub returns-in-Some : goal.returns-in-Some
returns-in-Some c = search (rules, ended_live)
