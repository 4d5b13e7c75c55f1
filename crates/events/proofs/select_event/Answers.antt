use mathlib.Core.Path.{sym, ◌∙◌}
use Rattle.lookup.specs.Lookup.{prepared}
use Rattle.state.specs.Numbers.{set_inside, history_part}
use Rattle.events.proofs.select_event.Goals as goal

pub set_at-conf-requires : goal.set_at-conf-requires
set_at-conf-requires c = set_inside _ c.requires.size

pub select-requires : goal.select-requires
select-requires c = record { prepared = rw c.rows_at-atomic.ensures (prepared _ _ _ c.requires.looked); fixed = c.requires.looked.indexed.domains; inside = rw c.set_at-conf.ensures c.requires.inside; room = history_part c.args.numbers.now c.requires.size; places = c.requires.places }

pub shape_of-items : goal.shape_of-items
shape_of-items c = c.select.ensures.chosen.fits.room ∙ sym c.requires.places

pub returns : goal.returns
returns c = rw (← c.set_at-conf.ensures) c.select.ensures
