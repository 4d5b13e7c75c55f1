use mathlib.Core.Path.{refl, sym, ap, ◌∙◌}
use native.Mathlib.Omega.{arith}
use Rattle.follower.specs.Selection.{choose}
use Rattle.rowset.specs.declared.rows.Rows.{Rows}
use Rattle.rowset.specs.Member.{rows_of}
use Rattle.rowset.specs.Iterating.{passing, gives, on}
use Rattle.rowset.specs.Visits.{visit_begin, visit_turn, visit_end, found_next, next_small, rest_at}
use Rattle.matching.specs.Chosen.{list_begin, active_inside}
use Rattle.matching.specs.Choosers.{choosing_begin, choosing_done, choice_placed, note_ready, joins}
use Rattle.matching.specs.Climbed.{covers_begin, covers_on}
use Rattle.matching.proofs.candidates.Goals as goal

pub loop-i-init : goal.loop-i-init
loop-i-init c = passing _ _ _ _ refl refl (ap (λ (z : Rows). z.at) c.into_iter-i-iterator.ensures.into_iter_gives ∙ c.iter-i-items.ensures.at) (
  c.requires.2,
  omega arith,
  visit_begin _ _ _ _ (list_begin _),
  covers_begin _ _ _ _ _ _ c.empty-climbed.ensures (list_begin _),
  choosing_begin _ _ _ _ _ _ _ (list_begin _),
)

pub shape_of-items : goal.shape_of-items
shape_of-items c = c.loop-i.invariant.holds.0 ∙ sym c.requires.2

pub returns : goal.returns
returns c = let i = c.loop-i.invariant in let a = c.next.ensures.steps in let v = i.holds in let b = v.2.low in choosing_done _ c.requires.0.compiled.ready.sound _ _ _ _ _ _ _ _ c.requires.1 c.requires.0.atomic (ap (λ (z : Rows). rows_of z.set) c.into_iter-i-iterator.ensures.into_iter_gives ∙ ap rows_of c.iter-i-items.ensures.set ∙ c.intersection-active.ensures)
    (visit_end _ _ _ _ _ _ v.2 (gives i a) c.in-None.is) v.0 (omega arith) v.4

pub climb-found-requires : goal.climb-found-requires
climb-found-requires c = record {
  compiled = c.requires.0.compiled;
  indexed = c.requires.0.indexed;
  inside = active_inside _ _ _ _ _ c.requires.1 (ap (λ (z : Rows). rows_of z.set) c.into_iter-i-iterator.ensures.into_iter_gives ∙ ap rows_of c.iter-i-items.ensures.set ∙ c.intersection-active.ensures) (found_next _ _ _ (gives c.loop-i.invariant c.next.ensures.steps) _ c.in-Some.is).here;
}

pub note_choice-len-requires : goal.note_choice-len-requires
note_choice-len-requires c = let i = c.loop-i.invariant in let a = c.next.ensures.steps in let v = i.holds in let m = v.1 in
    let f = found_next _ _ _ (gives i a) _ c.in-Some.is in let l = f.low in
    let b = next_small _ _ _ (gives i a) _ c.in-Some.is in
    let w = c.requires.0.compiled.ready.tables.sized.counts.transitions in
    note_ready _ c.requires.0.compiled.ready.sound _ _ _ _ _ _ _ _ _ _ v.0 (omega arith) (omega arith) v.3 c.climb-found.ensures

pub loop-i-preserved : goal.loop-i-preserved
unfolding choose
loop-i-preserved c = let i = c.loop-i.invariant in let a = c.next.ensures.steps in let v = i.holds in let m = v.1 in
    let f = found_next _ _ _ (gives i a) _ c.in-Some.is in let l = f.low in
    let b = next_small _ _ _ (gives i a) _ c.in-Some.is in
    let w = c.requires.0.compiled.ready.tables.sized.counts.transitions in
    let j = joins _ _ _ _ _ _ _ _ _ (rest_at _ _ _ (gives i a) _ c.in-Some.is) v.4 v.0 (omega arith)
    (choice_placed _ c.requires.0.compiled.ready.sound _ _ _ _ _ _ v.0 (omega arith) refl) _ _ v.3 _ _ _ c.climb-found.ensures c.note_choice-len.ensures in
    let n = j.most in on i a _ c.in-Some.is (
      j.room,
      omega arith,
      visit_turn _ _ _ _ _ _ _ _ v.2 (gives i a) c.in-Some.is j.is,
      covers_on _ _ _ _ _ _ _ _ _ v.3 c.climb-found.ensures _ j.is,
      j.choosing,
    )
