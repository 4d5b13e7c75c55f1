use Rattle.microstep.specs.Targets.{default_within}
use Rattle.microstep.specs.Initial.{resolved_is, initial_within, start_ready}
use Rattle.microstep.specs.Plan.{paths_within, first_by_zeros, entry_within}
use Rattle.microstep.proofs.entry.first_entry.Goals as goal

pub default_targets_of-targets-requires : goal.default_targets_of-targets-requires
default_targets_of-targets-requires c = record { ready = c.requires.0; inside = c.requires.0.sound.tree.some }

pub resolve-to-requires : goal.resolve-to-requires
resolve-to-requires c = (start_ready _ _ _ _ c.requires.0 c.requires.1 c.atomic_rows-atoms.ensures c.empty-none.ensures, default_within _ c.requires.0.sound _ c.requires.0.sound.tree.some _ c.default_targets_of-targets.ensures)

pub paths_below-aim-requires : goal.paths_below-aim-requires
paths_below-aim-requires c = (record { ready = c.requires.0; inside = c.requires.0.sound.tree.some }, initial_within _ _ _ _ _ (start_ready _ _ _ _ c.requires.0 c.requires.1 c.atomic_rows-atoms.ensures c.empty-none.ensures) _ _ (resolved_is _ _ _ _ _ c.default_targets_of-targets.ensures c.resolve-to.ensures))

pub entry_set-requires : goal.entry_set-requires
entry_set-requires c = (start_ready _ _ _ _ c.requires.0 c.requires.1 c.atomic_rows-atoms.ensures c.empty-none.ensures, paths_within _ _ _ _ c.paths_below-aim.ensures)

pub returns : goal.returns
returns c = (
  first_by_zeros _ c.requires.0 _ c.requires.1 _ _ c.empty-none.ensures _ _ c.entry_set.ensures _ c.paths_below-aim.ensures (resolved_is _ _ _ _ _ c.default_targets_of-targets.ensures c.resolve-to.ensures),
  entry_within _ _ _ _ c.entry_set.ensures (paths_within _ _ _ _ c.paths_below-aim.ensures),
)
