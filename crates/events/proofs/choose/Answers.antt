use mathlib.Core.Path.{◌∙◌, sym}
use native.Mathlib.Omega.{arith}
use Rattle.state.specs.Places.{numbers_size, internal_size, external_size}
use Rattle.events.specs.Choosing.{event_ready, choose_eventless, choose_internal, choose_external, choose_nothing}
use Rattle.events.proofs.choose.Goals as goal

pub select_eventless-first-requires : goal.select_eventless-first-requires
select_eventless-first-requires c = event_ready _ _ _ c.requires.0 _ _ _ _ _ c.requires.1 c.requires.2

pub shape_of-items-then-first-gt0 : goal.shape_of-items-then-first-gt0
shape_of-items-then-first-gt0 c = c.select_eventless-first.ensures.chosen.fits.room ∙ sym c.requires.2

pub returns-then-first-gt0 : goal.returns-then-first-gt0
returns-then-first-gt0 c = choose_eventless _ _ c.requires.0.compiled _ _ _ _ c.requires.1 _ _ c.select_eventless-first.ensures c.if-first-gt0.true

pub first_name-event-requires : goal.first_name-event-requires
first_name-event-requires c = let e = internal_size _ _ _ _ c.requires.1.spells in record { inside = omega arith }

pub select_event-requires : goal.select_event-requires
select_event-requires c = event_ready _ _ _ c.requires.0 _ _ _ _ _ c.requires.1 c.select_eventless-first.ensures.chosen.fits.room

pub shape_of-items-then-numbers-gt0 : goal.shape_of-items-then-numbers-gt0
shape_of-items-then-numbers-gt0 c = c.select_event.ensures.chosen.fits.room ∙ sym c.requires.2

pub returns-then-numbers-gt0 : goal.returns-then-numbers-gt0
returns-then-numbers-gt0 c = choose_internal _ _ c.requires.0.compiled _ _ _ _ c.requires.1 _ _ c.select_eventless-first.ensures c.if-first-gt0.false c.if-numbers-gt0.true _ _ _ c.first_name-event.ensures c.select_event.ensures

pub first_name-event-requires-then-numbers-gt0-2 : goal.first_name-event-requires-then-numbers-gt0-2
first_name-event-requires-then-numbers-gt0-2 c = let e = external_size _ _ _ _ c.requires.1.spells in record { inside = omega arith }

pub select_event-requires-then-numbers-gt0-2 : goal.select_event-requires-then-numbers-gt0-2
select_event-requires-then-numbers-gt0-2 c = event_ready _ _ _ c.requires.0 _ _ _ _ _ c.requires.1 c.select_eventless-first.ensures.chosen.fits.room

pub shape_of-items-then-numbers-gt0-2 : goal.shape_of-items-then-numbers-gt0-2
shape_of-items-then-numbers-gt0-2 c = c.select_event-then-numbers-gt0-2.ensures.chosen.fits.room ∙ sym c.requires.2

pub returns-then-numbers-gt0-2 : goal.returns-then-numbers-gt0-2
returns-then-numbers-gt0-2 c = choose_external _ _ c.requires.0.compiled _ _ _ _ c.requires.1 _ _ c.select_eventless-first.ensures c.if-first-gt0.false c.if-numbers-gt0.false c.if-numbers-gt0-2.true _ _ _ c.first_name-event-then-numbers-gt0-2.ensures c.select_event-then-numbers-gt0-2.ensures

pub shape_of-items : goal.shape_of-items
shape_of-items c = c.select_eventless-first.ensures.chosen.fits.room ∙ sym c.requires.2

pub returns : goal.returns
returns c = choose_nothing _ _ c.requires.0.compiled _ _ _ _ c.requires.1 _ _ c.select_eventless-first.ensures c.if-first-gt0.false c.if-numbers-gt0.false c.if-numbers-gt0-2.false

pub bounds-numbers-1028 : goal.bounds-numbers-1028
bounds-numbers-1028 c = let e = numbers_size _ _ _ _ c.requires.1.spells in omega arith

pub bounds-numbers-1029 : goal.bounds-numbers-1029
bounds-numbers-1029 c = let e = numbers_size _ _ _ _ c.requires.1.spells in omega arith
