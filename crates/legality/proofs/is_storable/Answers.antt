use Rattle.legality.specs.Stored.{storable_outside, storable_shallow, storable_deep}
use Rattle.legality.specs.Rows.{rows_ready, history_after_lem}
use Rattle.laws.specs.Loops.{told, said_not_yes, said_not_no}
use Rattle.definition.specs.Chart.{is_shallow}
use mathlib.Core.Bool.{not}
use mathlib.Core.Path.{ap}
use Rattle.legality.proofs.is_storable.Goals as goal

pub returns-then-not-is_inside : goal.returns-then-not-is_inside
returns-then-not-is_inside c = storable_outside _ _ _ (said_not_yes _ _ c.is_inside.ensures (ap not c.if-not-is_inside.true))

pub parent_row-p-requires : goal.parent_row-p-requires
parent_row-p-requires c = let h = c.requires in record { row = h.row; later = history_after_lem _ _ h.row.ready h.history }

pub shallow_fits-requires : goal.shallow_fits-requires
shallow_fits-requires c = (c.parent_row-p.ensures.row, rows_ready _ _ c.requires.row.ready (said_not_no _ _ c.is_inside.ensures (ap not c.if-not-is_inside.false)))

pub returns-then-is_shallow : goal.returns-then-is_shallow
returns-then-is_shallow c = storable_shallow _ _ _ _ _ (said_not_no _ _ c.is_inside.ensures (ap not c.if-not-is_inside.false)) c.parent_row-p.ensures.is (told is_shallow _ _ _ _ c.kind_of.ensures c.is_shallow.ensures c.if-is_shallow.true) c.shallow_fits.ensures

pub deep_fits-requires : goal.deep_fits-requires
deep_fits-requires c = (c.parent_row-p.ensures.row, rows_ready _ _ c.requires.row.ready (said_not_no _ _ c.is_inside.ensures (ap not c.if-not-is_inside.false)))

pub returns : goal.returns
returns c = storable_deep _ _ _ _ _ (said_not_no _ _ c.is_inside.ensures (ap not c.if-not-is_inside.false)) c.parent_row-p.ensures.is (told is_shallow _ _ _ _ c.kind_of.ensures c.is_shallow.ensures c.if-is_shallow.false) c.deep_fits.ensures
