use mathlib.Core.Path.{sym, ◌∙◌}
use Rattle.microstep.specs.Targets.{default_within}
use Rattle.microstep.specs.Initial.{initial_plain, resolved_is}
use Rattle.microstep.proofs.initial.initial_targets.Goals as goal

pub default_targets_of-targets-requires : goal.default_targets_of-targets-requires
default_targets_of-targets-requires c = record { ready = c.requires.0.store.ready; inside = c.requires.1 }

pub listed_histories-requires : goal.listed_histories-requires
listed_histories-requires c = record { ready = c.requires.0.store.ready; inside = c.requires.1 }

pub returns-then-is_empty : goal.returns-then-is_empty
returns-then-is_empty c = initial_plain _ c.requires.0.store.ready.sound _ _ _ _ c.default_targets_of-targets.ensures c.listed_histories.ensures (sym c.is_empty.ensures ∙ c.if-is_empty.true)

pub resolve-requires : goal.resolve-requires
resolve-requires c = (c.requires.0, default_within _ c.requires.0.store.ready.sound _ c.requires.1 _ c.default_targets_of-targets.ensures)

pub returns : goal.returns
returns c = resolved_is _ _ _ _ _ c.default_targets_of-targets.ensures c.resolve.ensures
