use native.Mathlib.Omega.{arith}
use Rattle.matching.specs.Ready.{slot_ready}
use Rattle.events.specs.Joining.{joins_none, queued_none, known_raised, known_row, known_id, raised_low, done_low, raised_joins, done_joins}
use Rattle.events.proofs.queue_join.Goals as goal

pub slot_of-slot-requires : goal.slot_of-slot-requires
slot_of-slot-requires c = slot_ready _ _ _ c.requires.0 (known_raised _ _ c.requires.1 c.if-kind-eq-RAISED.true)

pub put_last-requires : goal.put_last-requires
put_last-requires c =
    let l = raised_low _ _ _ _ c.requires.3 c.if-kind-eq-RAISED.true in
    let e = c.requires.2 in
    record { inside = omega arith }

pub overflow_add-result : goal.overflow_add-result
overflow_add-result c = let l = raised_low _ _ _ _ c.requires.3 c.if-kind-eq-RAISED.true in record { fits = omega arith }

pub returns-then-kind-eq-RAISED : goal.returns-then-kind-eq-RAISED
returns-then-kind-eq-RAISED c =
    raised_joins _ _ _ _ c.requires.3 c.if-kind-eq-RAISED.true _ _ _ _ c.slot_of-slot.ensures c.name_of.ensures c.put_last.ensures

pub id_of-requires : goal.id_of-requires
id_of-requires c = record { tables = c.requires.0.ready.tables; below = known_row _ _ c.requires.1 c.if-kind-eq-DONE.true }

pub slot_of-id-requires : goal.slot_of-id-requires
slot_of-id-requires c =
    let l = known_id _ _ c.requires.1 c.if-kind-eq-DONE.true in
    let e = c.id_of.ensures.is in
    slot_ready _ _ _ c.requires.0 (omega arith)

pub put_done_last-requires : goal.put_done_last-requires
put_done_last-requires c =
    let l = done_low _ _ _ _ c.requires.3 c.if-kind-eq-DONE.true in
    let e = c.requires.2 in
    record { inside = omega arith }

pub overflow_add-result-then-kind-eq-DONE : goal.overflow_add-result-then-kind-eq-DONE
overflow_add-result-then-kind-eq-DONE c = let l = done_low _ _ _ _ c.requires.3 c.if-kind-eq-DONE.true in record { fits = omega arith }

pub returns-then-kind-eq-DONE : goal.returns-then-kind-eq-DONE
returns-then-kind-eq-DONE c =
    done_joins _ _ _ _ c.requires.3 c.if-kind-eq-DONE.true _ _ _ _ _ c.id_of.ensures c.slot_of-id.ensures c.name_of-then-kind-eq-DONE.ensures c.put_done_last.ensures

pub returns : goal.returns
returns c = joins_none _ _ _ (queued_none _ _ _ c.if-kind-eq-RAISED.false c.if-kind-eq-DONE.false)

pub overflow_cast-index-then-kind-eq-DONE : goal.overflow_cast-index-then-kind-eq-DONE
overflow_cast-index-then-kind-eq-DONE c =
    let l = known_row _ _ c.requires.1 c.if-kind-eq-DONE.true in
    let m = c.requires.0.ready.tables.sized.counts.rows in
    record { fits = omega arith }
