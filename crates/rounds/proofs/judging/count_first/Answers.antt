use Rattle.rounds.specs.Judging.{wrote_counted}
use Rattle.rounds.specs.Traces.{wrote_noted}
use Rattle.rounds.proofs.judging.count_first.Goals as goal

pub returns : goal.returns
returns c = (wrote_counted _ _ _ _ c.first_effects.ensures, wrote_noted _ _ _ _ c.first_effects.ensures c.requires.1)
