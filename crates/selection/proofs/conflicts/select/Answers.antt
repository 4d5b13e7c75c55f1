use mathlib.Core.Path.{sym, ◌∙◌}
use Rattle.selection.specs.Choosers.{selected_by_lem}
use Rattle.selection.proofs.conflicts.select.Goals as goal

pub candidates-n-requires : goal.candidates-n-requires
candidates-n-requires c = (c.requires.prepared, c.requires.inside, c.requires.places)

pub without_conflicts-requires : goal.without_conflicts-requires
without_conflicts-requires c = (record { ready = c.requires.prepared.compiled.ready; room = c.requires.room }, c.requires.fixed, c.candidates-n.ensures.chosen.fits)

pub shape_of-items : goal.shape_of-items
shape_of-items c = c.without_conflicts.ensures.selected.fits.room ∙ sym c.requires.places

pub returns : goal.returns
returns c = selected_by_lem _ _ _ _ _ _ _ _ _ c.candidates-n.ensures c.without_conflicts.ensures
