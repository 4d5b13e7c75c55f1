use Rattle.microstep.specs.Targets.{effective_within, targets_added}
use Rattle.microstep.specs.Stored.{stored_within}
use Rattle.microstep.proofs.targets.add_targets.Goals as goal

pub paths_below-requires : goal.paths_below-requires
paths_below-requires c = (c.domain-d.ensures.row, effective_within _ c.requires.round.store.ready.sound _ (stored_within _ _ _ _ _ c.requires.round) _ c.requires.inside _ c.effective_after-to.ensures)

pub returns : goal.returns
returns c = targets_added _ _ _ _ _ _ _ _ _ c.union.ensures c.paths_below.ensures c.domain-d.ensures.is c.effective_after-to.ensures
