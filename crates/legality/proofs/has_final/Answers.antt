use mathlib.Core.Path.{refl, ap, ◌∙◌}
use Rattle.rowset.specs.declared.rows.Rows.{Rows}
use Rattle.rowset.specs.Member.{rows_of}
use Rattle.legality.specs.Rows.{row_ready, root_ready, part_ready, final_children}
use Rattle.rowset.specs.Iterating.{passing, gives, on}
use Rattle.rowset.specs.Visits.{found_next, remain_begin, any_on, any_stop, any_end}
use Rattle.legality.proofs.has_final.Goals as goal

pub children_of-requires : goal.children_of-requires
children_of-requires c = root_ready _ c.requires.ready

pub loop-r-init : goal.loop-r-init
loop-r-init c = passing _ _ _ _ refl refl (ap (λ (x : Rows). x.at) c.into_iter-r-iterator.ensures.into_iter_gives ∙ c.iter-r-items.ensures.at) (remain_begin _ _)

pub returns : goal.returns
returns c =
    final_children _ _ _ _ _ c.requires c.children_of.ensures (ap (λ (x : Rows). rows_of x.set) c.into_iter-r-iterator.ensures.into_iter_gives ∙ ap rows_of c.iter-r-items.ensures.set ∙ c.intersection-top.ensures)
    (any_end _ _ _ _ c.loop-r.invariant.holds (gives c.loop-r.invariant c.next.ensures.steps) c.in-None.is)

pub is_final_under_root-requires : goal.is_final_under_root-requires
is_final_under_root-requires c =
    row_ready _ _ _ (part_ready _ _ _ _ c.requires (ap (λ (x : Rows). rows_of x.set) c.into_iter-r-iterator.ensures.into_iter_gives ∙ ap rows_of c.iter-r-items.ensures.set ∙ c.intersection-top.ensures))
    (found_next _ _ _ (gives c.loop-r.invariant c.next.ensures.steps) _ c.in-Some.is).here

pub returns-then-is_final_under_root : goal.returns-then-is_final_under_root
returns-then-is_final_under_root c =
    final_children _ _ _ _ _ c.requires c.children_of.ensures (ap (λ (x : Rows). rows_of x.set) c.into_iter-r-iterator.ensures.into_iter_gives ∙ ap rows_of c.iter-r-items.ensures.set ∙ c.intersection-top.ensures)
    (any_stop _ _ _ _ _ _ c.loop-r.invariant.holds (gives c.loop-r.invariant c.next.ensures.steps) c.in-Some.is c.is_final_under_root.ensures c.if-is_final_under_root.true)

pub loop-r-preserved : goal.loop-r-preserved
loop-r-preserved c = on c.loop-r.invariant c.next.ensures.steps _ c.in-Some.is ((any_on _ _ _ _ _ _ c.loop-r.invariant.holds (gives c.loop-r.invariant c.next.ensures.steps) c.in-Some.is c.is_final_under_root.ensures c.if-is_final_under_root.false))
