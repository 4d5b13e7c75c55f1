use mathlib.Core.Path.{refl}
use Rattle.microstep.specs.Initial.{defaults_within, initial_histories}
use Rattle.microstep.specs.Plan.{plan_stay, plan_entry, plan_fallen, exits_within, targeted_within, entry_within, fallen_histories}
use Rattle.microstep.proofs.planning.plan_round.Goals as goal

pub entry_set-e-requires : goal.entry_set-e-requires
entry_set-e-requires c = (c.requires.1, targeted_within _ _ _ _ _ c.targeted-aim.ensures)

pub fallen_in-fallen-requires : goal.fallen_in-fallen-requires
fallen_in-fallen-requires c = (c.requires.0, c.requires.1, c.requires.2, c.requires.3, defaults_within _ _ _ _ c.entry_set-e.ensures)

pub returns : goal.returns
returns c =
    let g = c.requires.1.store.ready in
    let w = c.requires.3.inside in
    let out = c.requires.4 in
    let entry = plan_entry _ g.sound _ _ _ w _ out _ _ c.entry_set-e.ensures c.targeted-aim.ensures in (
      record {
        from = refl;
        stay = plan_stay _ g.sound _ _ _ w _ out _ c.minus-stay.ensures;
        out = out;
        entry = entry;
        fallen = plan_fallen _ g.sound _ _ _ w _ out _ _ _ entry refl c.fallen_in-fallen.ensures;
      },
      record {
        ready = g;
        out = exits_within _ _ _ _ _ _ c.requires.1.store.inside out;
        set = entry_within _ _ _ _ c.entry_set-e.ensures (targeted_within _ _ _ _ _ c.targeted-aim.ensures);
        fallen = initial_histories _ g _ _ _ _ (fallen_histories _ g _ _ _ w refl) c.fallen_in-fallen.ensures;
      },
    )
