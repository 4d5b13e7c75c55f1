use Rattle.rounds.specs.Judging.{one_left}
use Rattle.rounds.proofs.Tags.{all_left}
use Rattle.rounds.proofs.taking.internal_left.Goals as goal

pub overflow_sub-result : goal.overflow_sub-result
overflow_sub-result c = c.requires.some c.in-Internal.is

pub returns-in-Internal : goal.returns-in-Internal
returns-in-Internal c = one_left _ _ c.in-Internal.is

pub returns-in-Nothing : goal.returns-in-Nothing
returns-in-Nothing c = all_left _ _ c.in-Nothing.is
