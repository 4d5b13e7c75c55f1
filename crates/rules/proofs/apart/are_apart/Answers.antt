use mathlib.Core.Path.{sym, ◌∙◌}
use native.Mathlib.Omega.{arith}
use Rattle.definition.specs.Tables.{chart_of}
use Rattle.rules.specs.Apart.{apart_begin, apart_turn, apart_leave, apart_done}
use Rattle.rules.specs.Beside.{anchor_only, over_anchor, gathered_begin, anchors_turn, above_turn, beside_rows, under_set}
use Rattle.rules.proofs.apart.are_apart.Goals as goal

pub loop-k-init : goal.loop-k-init
loop-k-init c =
    let list = c.args.list.now in
    (omega arith, apart_begin (chart_of _) list, gathered_begin (anchor_only (chart_of _)) list _ c.empty-anchors.ensures, gathered_begin (over_anchor (chart_of _)) list _ c.empty-above.ensures)

pub is_beside-requires : goal.is_beside-requires
is_beside-requires c = under_set _ _ _ _ c.requires.0 c.anchor_of-a.ensures.row c.set_of-over.ensures

pub returns-then-not-is_beside : goal.returns-then-not-is_beside
returns-then-not-is_beside c =
    let l = c.loop-k in
    let row = c.row_at.ensures in
    let anchor = c.anchor_of-a.ensures in
    let own = under_set _ _ _ _ c.requires.0 anchor.row c.set_of-over.ensures in
    let beside = beside_rows _ _ l.k _ _ (omega arith) row.is anchor.is _ own l.anchors l.above l.invariant.1 l.invariant.2 l.invariant.3 in
    apart_leave (chart_of _) _ l.k _ (omega arith) row.is (sym beside ∙ sym c.is_beside.ensures ∙ c.if-not-is_beside.true)

pub loop-k-preserved : goal.loop-k-preserved
loop-k-preserved c =
    let l = c.loop-k in
    let row = c.row_at.ensures in
    let anchor = c.anchor_of-a.ensures in
    let own = under_set _ _ _ _ c.requires.0 anchor.row c.set_of-over.ensures in
    let beside = beside_rows _ _ l.k _ _ (omega arith) row.is anchor.is _ own l.anchors l.above l.invariant.1 l.invariant.2 l.invariant.3 in (
      omega arith,
      apart_turn (chart_of _) _ l.k _ (omega arith) row.is l.invariant.1 (sym beside ∙ sym c.is_beside.ensures ∙ c.if-not-is_beside.false),
      anchors_turn _ _ l.k _ _ (omega arith) row.is anchor.is _ _ l.invariant.2 c.with-anchors.ensures,
      above_turn _ _ l.k _ _ (omega arith) row.is anchor.is _ own _ _ l.invariant.3 c.union-above.ensures,
    )

pub returns : goal.returns
returns c = apart_done (chart_of _) _ c.loop-k.k (omega arith) c.loop-k.invariant.1
