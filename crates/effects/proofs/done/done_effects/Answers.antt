use mathlib.Core.List.{[], ◌∷◌, ◌++◌}
use mathlib.Core.Path.{◌≡◌, refl, sym, subst}
use native.Mathlib.Omega.{arith}
use Rattle.follower.specs.Blocks.{done}
use Rattle.follower.specs.Microstep.{done_effects, active_at}
use Rattle.definition.specs.Tables.{chart_of}
use Rattle.definition.specs.Chart.{is_final, is_root}
use Rattle.rowset.specs.Member.{rows_of}
use Rattle.laws.specs.Loops.{told}
use Rattle.effects.specs.Entering.{done_above, done_plain, done_closing, done_pieces, above_yes, above_no, final_later, not_root_later}
use Rattle.effects.specs.Trace.{queues, Wrote, Room}
use Rattle.effects.specs.Writing.{wrote_none, wrote_both, room_first, room_next}
use Rattle.effects.proofs.done.done_effects.Goals as goal
use Rattle.effects.proofs.done.done_effects.Goals.{After-parent_row-g}

-- a final that is not under the root: its parent's event, then the grandparent's
pieces : (c : After-parent_row-g) →
    done_effects (chart_of c.args.chart.now) (active_at (rows_of c.args.stay) (rows_of c.args.set) c.args.r.0) c.args.r.0 ≡ (done c.parent_row-p.result.0 ∷ []) ++ done_above (chart_of c.args.chart.now) (active_at (rows_of c.args.stay) (rows_of c.args.set) c.args.r.0) c.parent_row-g.result.0
pieces c = done_pieces _ _ _ _ _ (told is_final _ _ _ _ c.kind_of.ensures c.is_final.ensures c.if-not-is_final.false) c.parent_row-p.ensures.is (told is_root _ _ _ _ c.kind_of-2.ensures c.is_root.ensures c.if-is_root.false) c.parent_row-g.ensures.is

pub returns-then-not-is_final : goal.returns-then-not-is_final
returns-then-not-is_final c = subst (Wrote _ _ _ _) (sym (done_plain _ _ _ (told is_final _ _ _ _ c.kind_of.ensures c.is_final.ensures c.if-not-is_final.true))) (wrote_none _ _)

pub parent_row-p-requires : goal.parent_row-p-requires
parent_row-p-requires c = record { row = c.requires.0; later = final_later _ _ c.requires.0.ready (told is_final _ _ _ _ c.kind_of.ensures c.is_final.ensures c.if-not-is_final.false) }

pub returns-then-is_root : goal.returns-then-is_root
returns-then-is_root c = subst (Wrote _ _ _ _) (sym (done_closing _ _ _ _ (told is_final _ _ _ _ c.kind_of.ensures c.is_final.ensures c.if-not-is_final.false) c.parent_row-p.ensures.is (told is_root _ _ _ _ c.kind_of-2.ensures c.is_root.ensures c.if-is_root.true))) (wrote_none _ _)

pub parent_row-g-requires : goal.parent_row-g-requires
parent_row-g-requires c = record { row = c.parent_row-p.ensures.row; later = not_root_later _ _ c.requires.0.ready (told is_root _ _ _ _ c.kind_of-2.ensures c.is_root.ensures c.if-is_root.false) }

pub emit_join-sum-requires : goal.emit_join-sum-requires
emit_join-sum-requires c = (record { some = omega arith; most = omega arith; index = omega arith }, unfold queues in refl, room_first _ (done _ ∷ []) _ (subst (Room _) (pieces (goal.at.emit_join-sum-requires c).After-parent_row-g) c.requires.1))

pub emit_join-requires : goal.emit_join-requires
emit_join-requires c = (record { some = omega arith; most = omega arith; index = omega arith }, unfold queues in refl, subst (Room _) (above_yes _ _ _ _ _ c.active_at.ensures c.is_done_above-both.ensures c.if-both.true) (room_next _ _ _ _ (done _ ∷ []) _ (subst (Room _) (pieces (goal.at.emit_join-requires c).After-parent_row-g) c.requires.1) c.emit_join-sum.ensures))

pub returns-then-both : goal.returns-then-both
returns-then-both c = subst (Wrote _ _ _ _) (sym (pieces (goal.at.returns-then-both c).After-parent_row-g)) (wrote_both _ _ _ _ _ _ (done _ ∷ []) _ c.emit_join-sum.ensures (subst (Wrote _ _ _ _) (sym (above_yes _ _ _ _ _ c.active_at.ensures c.is_done_above-both.ensures c.if-both.true)) c.emit_join.ensures))

pub returns : goal.returns
returns c = subst (Wrote _ _ _ _) (sym (pieces (goal.at.returns c).After-parent_row-g)) (wrote_both _ _ _ _ _ _ (done _ ∷ []) _ c.emit_join-sum.ensures (subst (Wrote _ _ _ _) (sym (above_no _ _ _ _ _ c.active_at.ensures c.is_done_above-both.ensures c.if-both.false)) (wrote_none _ _)))
