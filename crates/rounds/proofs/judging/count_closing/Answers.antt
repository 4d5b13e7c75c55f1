use Rattle.rounds.specs.Judging.{wrote_counted}
use Rattle.rounds.proofs.judging.count_closing.Goals as goal

pub returns : goal.returns
returns c = wrote_counted _ _ _ _ c.closing_effects.ensures
