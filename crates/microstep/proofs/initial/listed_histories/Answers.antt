use Rattle.microstep.specs.Initial.{listed_are}
use Rattle.microstep.proofs.initial.listed_histories.Goals as goal

pub returns : goal.returns
returns c = listed_are _ c.requires.ready.sound _ _ _ _ c.default_targets_of.ensures c.descendants_of.ensures c.minus.ensures
