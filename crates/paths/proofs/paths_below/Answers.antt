use mathlib.Core.List.{List, []}
use mathlib.Core.Path.{ap, ◌∙◌}
use Prim.Native.Nat.{ℕ}
use Rattle.definition.specs.Rows.{fold, intersection}
use Rattle.follower.specs.Microstep.{add_path, paths_below}
use Rattle.definition.specs.Tables.{chart_of}
use Rattle.rowset.specs.Visits.{visit_begin, visit_turn, visit_end, found_next}
use Rattle.rowset.specs.Iterating.{passing, gives, on}
use Rattle.rowset.specs.Member.{rows_of}
use Rattle.paths.proofs.paths_below.Goals as goal

pub loop-x-init : goal.loop-x-init
loop-x-init c = passing _ _ _ _ c.into_iter-x-iterator.ensures.into_iter_gives c.iter-x-items.ensures.set c.iter-x-items.ensures.at (visit_begin _ _ _ _ c.empty-set.ensures)

pub add_path-set-requires : goal.add_path-set-requires
add_path-set-requires c = record { ready = c.requires.0.ready; inside = c.requires.1.at _ (found_next _ _ _ (gives c.loop-x.invariant c.next.ensures.steps) _ c.in-Some.is).here }

pub loop-x-preserved : goal.loop-x-preserved
loop-x-preserved c = let p = c.loop-x.invariant in let a = c.next.ensures.steps in
    on p a _ c.in-Some.is (visit_turn _ _ _ _ _ _ _ _ p.holds (gives p a) c.in-Some.is c.add_path-set.ensures)

pub descendants_of-requires : goal.descendants_of-requires
descendants_of-requires c = c.requires.0

pub returns : goal.returns
unfolding paths_below
returns c = let p = c.loop-x.invariant in
    c.intersection.ensures ∙ ap (λ (xs : List ℕ). intersection xs (rows_of c.descendants_of.result)) (visit_end _ _ _ _ _ _ p.holds (gives p c.next.ensures.steps) c.in-None.is) ∙ ap (intersection (fold (add_path (chart_of c.args.chart.now)) [] (rows_of c.args.to))) c.descendants_of.ensures
