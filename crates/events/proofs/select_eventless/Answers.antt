use mathlib.Core.Path.{refl, ap, ◌∙◌}
use Rattle.rowset.specs.Member.{rows_of}
use Rattle.state.specs.Numbers.{set_inside}
use Rattle.events.specs.Choosing.{eventless_none, eventless_found}
use mathlib.Core.Bool.{not}
use Rattle.events.proofs.select_eventless.Goals as goal

pub set_at-conf-requires : goal.set_at-conf-requires
set_at-conf-requires c = set_inside _ c.requires.size

pub returns-then-not-meets : goal.returns-then-not-meets
returns-then-not-meets c = eventless_none _ c.requires.looked.compiled.ready.sound _ _ _ _ _ _ _ _ c.requires.inside c.requires.places (ap rows_of c.set_at-conf.ensures) (ap rows_of c.rows_at-eventless.ensures ∙ c.requires.looked.indexed.eventless) c.meets.ensures (ap not c.if-not-meets.true) refl c.empty.ensures

pub select_event-requires : goal.select_event-requires
select_event-requires c = c.requires

pub returns : goal.returns
returns c = eventless_found _ _ _ _ _ _ _ refl c.select_event.ensures
