use mathlib.Core.Path.{refl}
use Rattle.microstep.specs.Initial.{initial_histories, empty_within}
use Rattle.microstep.specs.Plan.{first_defaults, first_fallen_lem, no_histories}
use Rattle.microstep.proofs.planning.plan_start.Goals as goal

pub first_fallen-requires : goal.first_fallen-requires
first_fallen-requires c = (c.requires.0, first_defaults _ _ c.first_entry-e.ensures.0)

pub returns : goal.returns
returns c = (
  record {
    stay = c.empty-none.ensures;
    entry = c.first_entry-e.ensures.0;
    fallen = first_fallen_lem _ _ _ c.first_entry-e.ensures.0 c.first_fallen.ensures;
  },
  record {
    ready = c.requires.0;
    out = empty_within _ _ c.empty-none.ensures;
    set = c.first_entry-e.ensures.1;
    fallen = initial_histories _ c.requires.0 _ _ _ _ (no_histories _ _ c.requires.0 refl) c.first_fallen.ensures;
  },
)
