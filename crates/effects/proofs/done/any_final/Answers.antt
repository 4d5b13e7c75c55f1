use Rattle.definition.specs.Chart.{is_final}
use Rattle.rowset.specs.Visits.{found_next, rest_at, rest_end}
use Rattle.rowset.specs.Iterating.{passing, gives, on}
use Rattle.laws.specs.Loops.{told}
use Rattle.effects.specs.Entering.{seek_begin, seek_turn, seek_found, seek_none}
use Rattle.effects.proofs.done.any_final.Goals as goal

pub loop-r-init : goal.loop-r-init
loop-r-init c = passing _ _ _ _ c.into_iter-r-iterator.ensures.into_iter_gives c.iter-r-items.ensures.set c.iter-r-items.ensures.at (seek_begin _ _)

pub kind_of-requires : goal.kind_of-requires
kind_of-requires c = record { tables = c.requires.0; below = c.requires.1.at _ (found_next _ _ _ (gives c.loop-r.invariant c.next.ensures.steps) _ c.in-Some.is).here }

pub returns-then-is_final : goal.returns-then-is_final
returns-then-is_final c = let p = c.loop-r.invariant in
    seek_found _ _ _ _ (rest_at _ _ _ (gives p c.next.ensures.steps) _ c.in-Some.is) (told is_final _ _ _ _ c.kind_of.ensures c.is_final.ensures c.if-is_final.true) p.holds

pub loop-r-preserved : goal.loop-r-preserved
loop-r-preserved c = let p = c.loop-r.invariant in let a = c.next.ensures.steps in
    on p a _ c.in-Some.is (seek_turn _ _ _ _ (rest_at _ _ _ (gives p a) _ c.in-Some.is) (told is_final _ _ _ _ c.kind_of.ensures c.is_final.ensures c.if-is_final.false) p.holds)

pub returns : goal.returns
returns c = let p = c.loop-r.invariant in seek_none _ _ _ (rest_end _ _ _ (gives p c.next.ensures.steps) c.in-None.is) p.holds
