use mathlib.Core.Path.{ap}
use Rattle.laws.specs.Loops.{told}
use Rattle.definition.specs.Chart.{is_shallow, is_history}
use Rattle.legality.specs.Rows.{history_after_lem}
use Rattle.histories.specs.Places.{mark_none, mark_plain, mark_shallow, mark_apart, mark_deep}
use mathlib.Core.Bool.{not}
use Rattle.histories.proofs.mark_place.Goals as goal

pub returns-then-is_empty : goal.returns-then-is_empty
returns-then-is_empty c = mark_none _ _ _ _ c.requires.3 _ c.set_at-set.ensures _ c.is_empty.ensures c.if-is_empty.true

pub returns-then-not-is_history : goal.returns-then-not-is_history
returns-then-not-is_history c = mark_plain _ _ _ _ c.requires.3 _ c.set_at-set.ensures _ c.is_empty.ensures c.if-is_empty.false (told is_history _ _ _ _ c.kind_of-kind.ensures c.is_history.ensures c.if-not-is_history.true)

pub is_storable-requires : goal.is_storable-requires
is_storable-requires c = record { row = c.requires.0; history = (told is_history _ _ _ _ c.kind_of-kind.ensures c.is_history.ensures c.if-not-is_history.false) }

pub returns-then-is_shallow : goal.returns-then-is_shallow
returns-then-is_shallow c = mark_shallow _ _ _ _ c.requires.3 _ c.set_at-set.ensures _ c.is_empty.ensures c.if-is_empty.false _ (told is_history _ _ _ _ c.kind_of-kind.ensures c.is_history.ensures c.if-not-is_history.false) (told is_shallow _ _ _ _ c.kind_of-kind.ensures c.is_shallow.ensures c.if-is_shallow.true) c.is_storable.ensures

pub parent_row-p-requires : goal.parent_row-p-requires
parent_row-p-requires c = record { row = c.requires.0; later = history_after_lem _ _ c.requires.0.ready (told is_history _ _ _ _ c.kind_of-kind.ensures c.is_history.ensures c.if-not-is_history.false) }

pub returns-then-not-subset : goal.returns-then-not-subset
returns-then-not-subset c = mark_apart _ _ _ _ c.requires.3 _ c.set_at-set.ensures _ c.is_empty.ensures c.if-is_empty.false (told is_history _ _ _ _ c.kind_of-kind.ensures c.is_history.ensures c.if-not-is_history.false) (told is_shallow _ _ _ _ c.kind_of-kind.ensures c.is_shallow.ensures c.if-is_shallow.false) _ c.parent_row-p.ensures.is _ _ _ _ c.requires.2 c.descendants_of.ensures c.intersection.ensures c.subset.ensures (ap not c.if-not-subset.true)

pub mark-requires : goal.mark-requires
mark-requires c = c.requires.3

pub returns : goal.returns
returns c = mark_deep _ _ _ _ c.requires.3 _ c.set_at-set.ensures _ c.is_empty.ensures c.if-is_empty.false (told is_history _ _ _ _ c.kind_of-kind.ensures c.is_history.ensures c.if-not-is_history.false) (told is_shallow _ _ _ _ c.kind_of-kind.ensures c.is_shallow.ensures c.if-is_shallow.false) _ c.parent_row-p.ensures.is _ _ _ _ c.requires.2 c.descendants_of.ensures c.intersection.ensures c.subset.ensures _ _ (ap not c.if-not-subset.false) c.with.ensures c.mark.ensures
