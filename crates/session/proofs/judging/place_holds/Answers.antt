use native.Mathlib.Omega.{arith}
use Rattle.session.specs.Parts.{place_none, place_past, place_plain, place_stored}
use Rattle.laws.specs.Loops.{told}
use Rattle.definition.specs.Chart.{is_history}
use Rattle.session.proofs.judging.place_holds.Goals as goal

pub set_at-set-requires : goal.set_at-set-requires
set_at-set-requires c = record { inside = omega arith }

pub returns-then-is_empty : goal.returns-then-is_empty
returns-then-is_empty c = place_none _ _ _ _ c.set_at-set.ensures _ c.is_empty.ensures c.if-is_empty.true

pub returns-then-row_count-h : goal.returns-then-row_count-h
returns-then-row_count-h c = place_past _ _ _ _ c.set_at-set.ensures _ c.is_empty.ensures c.if-is_empty.false c.requires.0.sound.tree (let e = c.row_count.ensures in omega arith)

pub kind_of-requires : goal.kind_of-requires
kind_of-requires c = let e = c.row_count.ensures in record { tables = c.requires.0.tables; below = omega arith }

pub returns-then-not-is_history : goal.returns-then-not-is_history
returns-then-not-is_history c = place_plain _ _ _ _ c.set_at-set.ensures _ c.is_empty.ensures c.if-is_empty.false (told is_history _ _ _ _ c.kind_of.ensures c.is_history.ensures c.if-not-is_history.true)

pub is_storable-requires : goal.is_storable-requires
is_storable-requires c = let e = c.row_count.ensures in record { row = record { ready = c.requires.0; inside = omega arith }; history = told is_history _ _ _ _ c.kind_of.ensures c.is_history.ensures c.if-not-is_history.false }

pub returns : goal.returns
returns c = place_stored _ _ _ _ c.set_at-set.ensures _ c.is_empty.ensures c.if-is_empty.false _ (told is_history _ _ _ _ c.kind_of.ensures c.is_history.ensures c.if-not-is_history.false) c.is_storable.ensures
