use borrow.Author.Rules.{rules}
use Rattle.gather.specs.Ids.{begun_keys, ids_start, ids_stopped, ids_text, ids_fault, ids_room, ids_less, ids_more}
use Rattle.gather.proofs.ids.gather_ids.Goals as goal

pub forget-requires : goal.forget-requires
forget-requires c = search (rules, begun_keys)

pub loop-id-init : goal.loop-id-init
loop-id-init c = search (rules, ids_start)

pub ended-requires : goal.ended-requires
ended-requires c = search (rules, ids_stopped)

pub loop-id-smaller : goal.loop-id-smaller
loop-id-smaller c = search (rules, ids_less)

pub loop-id-preserved : goal.loop-id-preserved
loop-id-preserved c = search (rules, ids_more)

pub note_row-n-requires : goal.note_row-n-requires
note_row-n-requires c = ids_room _ _ _ _ _ _ c.loop-id.invariant _ c.unwrap_or-span.ensures

pub returns-in-Ok : goal.returns-in-Ok
returns-in-Ok c =
    ids_text _ _ _ _ _ _ c.loop-id.invariant _ _ c.next_mark-next.ensures _ c.is_mark.ensures c.if-not-is_mark.true _ c.ended.ensures _ c.in-Ok.is

pub returns-in-Err : goal.returns-in-Err
returns-in-Err c =
    ids_fault _ _ _ _ _ _ c.loop-id.invariant _ _ c.next_mark-next.ensures _ c.is_mark.ensures c.if-not-is_mark.true _ c.ended.ensures _ c.in-Err.is
