use mathlib.Core.Path.{◌≡◌, refl, sym, ap}
use mathlib.Core.List.{List}
use Prim.Native.Nat.{ℕ}
use Rattle.rowset.specs.declared.RowSet.{RowSet}
use Rattle.rowset.specs.declared.rows.Rows.{Rows}
use Rattle.rowset.specs.Member.{rows_of}
use Rattle.rowset.specs.Visits.{visit_begin, visit_turn, visit_end, found_next}
use Rattle.rowset.specs.Iterating.{passing, gives, on}
use Rattle.microstep.specs.Initial.{listed_row, fallen_pass}
use Rattle.microstep.proofs.initial.add_fallen_initial.Goals as goal

-- the set that the pass began with
same_rows : (s : RowSet) (first it : Rows) (xs : List ℕ) → it ≡ first → first.set ≡ s → rows_of s ≡ xs → rows_of it.set ≡ xs
same_rows s first it xs e f g = rw (e, f) g

pub listed_histories-listed-requires : goal.listed_histories-listed-requires
listed_histories-listed-requires c = record { ready = c.requires.0.store.ready; inside = c.requires.1 }

pub loop-x-init : goal.loop-x-init
loop-x-init c = let e = c.into_iter-x-iterator.ensures.into_iter_gives in passing _ _ _ _ e (sym (ap (λ (z : Rows). z.set) e)) c.iter-x-items.ensures.at (visit_begin _ _ _ _ refl)

pub add_fell-set-requires : goal.add_fell-set-requires
add_fell-set-requires c = (c.requires.0, listed_row _ c.requires.0.store.ready.sound _ _ _ (same_rows _ _ _ _ c.into_iter-x-iterator.ensures.into_iter_gives c.iter-x-items.ensures.set c.listed_histories-listed.ensures) (found_next _ _ _ (gives c.loop-x.invariant c.next.ensures.steps) _ c.in-Some.is).here)

pub loop-x-preserved : goal.loop-x-preserved
loop-x-preserved c = on c.loop-x.invariant c.next.ensures.steps _ c.in-Some.is (visit_turn _ _ _ _ _ _ _ _ c.loop-x.invariant.holds (gives c.loop-x.invariant c.next.ensures.steps) c.in-Some.is c.add_fell-set.ensures)

pub returns : goal.returns
returns c = fallen_pass _ _ _ _ _ _ (same_rows _ _ _ _ c.into_iter-x-iterator.ensures.into_iter_gives c.iter-x-items.ensures.set c.listed_histories-listed.ensures) (visit_end _ _ _ _ _ _ c.loop-x.invariant.holds (gives c.loop-x.invariant c.next.ensures.steps) c.in-None.is)
