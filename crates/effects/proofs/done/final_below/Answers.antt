use mathlib.Core.List.{List, []}
use mathlib.Core.Path.{◌≡◌, sym, ap, ◌∙◌}
use Prim.Native.Nat.{ℕ}
use native.Mathlib.Omega.{arith}
use Rattle.definition.specs.Rows.{fold, mem, backwards}
use Rattle.follower.specs.Microstep.{add_in_final}
use Rattle.definition.specs.Tables.{chart_of}
use Rattle.rowset.specs.Visits.{down_begin, down_turn, down_end, found_prev}
use Rattle.rowset.specs.Iterating.{passing_down, gives_down, on_down}
use Rattle.rowset.specs.declared.RowSet.{RowSet}
use Rattle.rowset.specs.declared.rows.RowsDown.{RowsDown}
use Rattle.rowset.specs.Member.{rows_of}
use Rattle.chart.specs.Inside.{descendant_inside}
use Rattle.effects.specs.Entering.{final_below}
use Rattle.effects.proofs.done.final_below.Goals as goal

pub descendants_of-below-requires : goal.descendants_of-below-requires
descendants_of-below-requires c = c.requires

-- the set that the pass began with
same_rows : (s : RowSet) (first it : RowsDown) (xs : List ℕ) → it ≡ first → first.set ≡ s → rows_of s ≡ xs → rows_of it.set ≡ xs
same_rows s first it xs e f g = rw (e, f) g

pub loop-r-init : goal.loop-r-init
loop-r-init c = let e = c.into_iter-r-iterator.ensures.into_iter_gives in passing_down _ _ _ _ e (sym (ap (λ (z : RowsDown). z.set) e)) c.down-r-items.ensures.below (down_begin _ _ _ _ 256 (omega arith) c.empty-set.ensures)

pub add_in_final-set-requires : goal.add_in_final-set-requires
add_in_final-set-requires c = record { ready = c.requires.ready; inside = descendant_inside _ c.requires.ready.sound _ _ (sym (ap (mem _) (same_rows _ _ _ _ c.into_iter-r-iterator.ensures.into_iter_gives c.down-r-items.ensures.set c.descendants_of-below.ensures)) ∙ (found_prev _ _ _ (gives_down c.loop-r.invariant c.next.ensures.steps) _ c.in-Some.is).here) }

pub loop-r-preserved : goal.loop-r-preserved
loop-r-preserved c = let p = c.loop-r.invariant in let a = c.next.ensures.steps in
    on_down p a _ c.in-Some.is (down_turn _ _ _ _ _ _ _ _ p.holds (gives_down p a) c.in-Some.is c.add_in_final-set.ensures)

pub returns : goal.returns
unfolding final_below
returns c = let p = c.loop-r.invariant in
    down_end _ _ _ _ _ _ p.holds (gives_down p c.next.ensures.steps) c.in-None.is ∙ ap (λ (xs : List ℕ). fold (add_in_final (chart_of c.args.chart.now) (rows_of c.args.active)) [] (backwards xs)) (same_rows _ _ _ _ c.into_iter-r-iterator.ensures.into_iter_gives c.down-r-items.ensures.set c.descendants_of-below.ensures)
