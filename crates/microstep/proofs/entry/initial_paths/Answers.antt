use mathlib.Core.Path.{ap, ◌∙◌}
use Rattle.follower.specs.Microstep.{paths_below}
use Rattle.definition.specs.Tables.{chart_of}
use Rattle.microstep.specs.Initial.{initial_within}
use Rattle.microstep.proofs.entry.initial_paths.Goals as goal

pub paths_below-requires : goal.paths_below-requires
paths_below-requires c = (record { ready = c.requires.0.store.ready; inside = c.requires.1 }, initial_within _ _ _ _ _ c.requires.0 _ _ c.initial_targets.ensures)

pub returns : goal.returns
returns c = c.paths_below.ensures ∙ ap (paths_below (chart_of c.args.round.now.chart.now) c.args.r.0) c.initial_targets.ensures
