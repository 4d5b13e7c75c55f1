use mathlib.Core.Path.{refl, sym, ◌∙◌}
use Rattle.microstep.specs.Initial.{initial_histories}
use Rattle.microstep.specs.Plan.{fallen_histories, none_fall, fallen_then}
use Rattle.microstep.proofs.planning.fallen_in.Goals as goal

pub returns-then-is_empty : goal.returns-then-is_empty
returns-then-is_empty c =
    let g = c.requires.1.store.ready in
    none_fall _ _ _ _ c.requires.2 (sym c.is_empty.ensures ∙ c.if-is_empty.true) (initial_histories _ g _ _ _ _ (fallen_histories _ g _ _ _ c.requires.3.inside refl) refl) c.empty.ensures

pub fallen_of-fallen-requires : goal.fallen_of-fallen-requires
fallen_of-fallen-requires c = (c.requires.0, c.requires.1, c.requires.3)

pub with_initial-requires : goal.with_initial-requires
with_initial-requires c = (c.requires.1, c.requires.4)

pub returns : goal.returns
returns c = fallen_then _ _ _ _ _ _ c.fallen_of-fallen.ensures c.with_initial.ensures
