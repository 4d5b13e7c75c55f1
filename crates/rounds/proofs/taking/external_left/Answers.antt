use Rattle.rounds.specs.Judging.{one_out}
use Rattle.rounds.proofs.Tags.{all_out}
use Rattle.rounds.proofs.taking.external_left.Goals as goal

pub overflow_sub-result : goal.overflow_sub-result
overflow_sub-result c = c.requires.some c.in-External.is

pub returns-in-External : goal.returns-in-External
returns-in-External c = one_out _ _ c.in-External.is

pub returns-in-Nothing : goal.returns-in-Nothing
returns-in-Nothing c = all_out _ _ c.in-Nothing.is
