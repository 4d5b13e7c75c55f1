-- `slot_fits`: a name that fills its slot alone, or the two tests.
use mathlib.Core.Path.{sym, ◌∙◌}
use Rattle.names.specs.Bytes.{filled_front, name_fills}
use Rattle.names.proofs.slots.slot_fits.Goals as goal

pub slice_bounds-is_name-end : goal.slice_bounds-is_name-end
slice_bounds-is_name-end c = filled_front _ _ c.filled-n.ensures

pub returns-then-is_name : goal.returns-then-is_name
returns-then-is_name c = name_fills _ _ c.filled-n.ensures (sym c.is_name.ensures ∙ c.if-is_name.true)
