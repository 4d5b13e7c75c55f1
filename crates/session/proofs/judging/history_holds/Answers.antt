use mathlib.Core.Path.{refl, sym, ap, ◌∙◌}
use Prim.Native.Nat.{ℕ, ◌*◌}
use native.Mathlib.Omega.{arith}
use lib.Seq.{length-take-le}
use Rattle.laws.specs.Loops.{all_begin, all_turn, all_leave, all_done, said_not_yes, said_not_no}
use Rattle.definition.specs.Rows.{all, from}
use Rattle.definition.specs.Tables.{chart_of}
use Rattle.session.specs.Judged.{holds_place}
use Rattle.session.specs.Parts.{rows_hold, rows_told, blank_holds, behind_told, behind_holds}
use mathlib.Core.Bool.{not}
use Rattle.session.proofs.judging.history_holds.Goals as goal

pub returns-then-not-are_zero : goal.returns-then-not-are_zero
returns-then-not-are_zero c =
    let rows = c.row_count-rows in
    let count = rows.ensures in
    let few = c.requires.0.tables.sized.counts.rows in
    let history = c.args.history.now in
    behind_holds (chart_of _) history rows.result c.requires.0.sound.tree (sym count) (omega arith) c.requires.1 (record { fits = λ k. (c.shared_slice_known-2-1.given k).fits })
    (behind_told history (rows.result * 4) _ _ c.are_zero.ensures c.if-not-are_zero.true)

pub slice_bounds-are_zero-end-2 : goal.slice_bounds-are_zero-end-2
slice_bounds-are_zero-end-2 c =
    let count = c.row_count-rows.ensures in
    let few = c.requires.0.tables.sized.counts.rows in
    let size = c.requires.1 in
    sym (length-take-le _ c.args.history.now (omega arith))

pub returns-then-are_zero : goal.returns-then-are_zero
returns-then-are_zero c =
    let history = c.args.history.now in
    let rows = c.row_count-rows.result in
    let behind = behind_told history (rows * 4) _ _ c.are_zero.ensures c.if-not-are_zero.false in
    blank_holds (chart_of _) history rows behind (sym c.are_zero-2.ensures ∙ c.if-are_zero.true)

pub are_many-requires : goal.are_many-requires
are_many-requires c =
    let count = c.row_count-rows.ensures in
    let few = c.requires.0.tables.sized.counts.rows in
    (omega arith, c.requires.1)

pub places_hold-requires : goal.places_hold-requires
places_hold-requires c = let pre = c.requires in (pre.0, pre.1)

pub returns-then-are_many : goal.returns-then-are_many
returns-then-are_many c =
    let chart = c.args.chart.now in
    let history = c.args.history.now in
    let rows = c.row_count-rows.result in
    let count = c.row_count-rows.ensures in
    let few = c.requires.0.tables.sized.counts.rows in
    let behind = behind_told history (rows * 4) _ _ c.are_zero.ensures c.if-not-are_zero.false in
    rows_told (chart_of chart) history rows behind (omega arith) _ (c.places_hold.ensures ∙ ap (λ (k : ℕ). all (holds_place (chart_of chart) history) (from k 0)) (sym count))

pub loop-h-init : goal.loop-h-init
loop-h-init c = (omega arith, all_begin _)

pub place_holds-requires : goal.place_holds-requires
place_holds-requires c =
    let pre = c.requires in
    let count = c.row_count-rows.ensures in
    let few = pre.0.tables.sized.counts.rows in
    (pre.0, pre.1, omega arith)

pub returns-then-not-place_holds : goal.returns-then-not-place_holds
returns-then-not-place_holds c =
    let l = c.loop-h in
    let count = c.row_count-rows.ensures in
    let few = c.requires.0.tables.sized.counts.rows in
    all_leave _ l.h 256 256 (omega arith) refl (said_not_yes _ _ c.place_holds.ensures (ap not c.if-not-place_holds.true))

pub loop-h-preserved : goal.loop-h-preserved
loop-h-preserved c = let l = c.loop-h in (omega arith, all_turn _ l.h l.invariant.1 (said_not_no _ _ c.place_holds.ensures (ap not c.if-not-place_holds.false)))

pub returns : goal.returns
returns c =
    let l = c.loop-h in
    let history = c.args.history.now in
    let rows = c.row_count-rows.result in
    let behind = behind_told history (rows * 4) _ _ c.are_zero.ensures c.if-not-are_zero.false in
    rows_hold (chart_of _) history rows behind (sym (all_done _ l.h rows rows (omega arith) (omega arith) refl l.invariant.1))
