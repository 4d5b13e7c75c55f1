use borrow.Author.Rules.{rules}
use Rattle.rowset.specs.Iterating.{passing, gives, on}
use Rattle.rowset.specs.Visits.{remain_begin, all_on, all_stop, all_end, visit_begin, visit_turn, visit_end}
use Rattle.compiler.specs.Judging.{gather_turn, child_set, own_not, own_same}
use Rattle.compiler.proofs.judging.are_own.Goals as goal

pub loop-x-init : goal.loop-x-init
loop-x-init c = (search rules, passing _ _ _ _ c.into_iter-x-iterator.ensures.into_iter_gives c.iter-x-items.ensures.set c.iter-x-items.ensures.at (remain_begin _ _, visit_begin _ _ _ _ c.empty-all.ensures))

pub returns-then-not-is_child_row : goal.returns-then-not-is_child_row
returns-then-not-is_child_row c =
    let p = c.loop-x.invariant.1 in
    own_not _ _ (all_stop _ _ _ _ _ _ p.holds.0 (gives p c.next.ensures.steps) c.in-Some.is c.is_child_row.ensures c.if-not-is_child_row.true)

pub set_at-requires : goal.set_at-requires
set_at-requires c = record { inside = child_set _ _ _ _ _ c.loop-x.invariant.0 c.is_child_row.ensures c.if-not-is_child_row.false }

pub loop-x-preserved : goal.loop-x-preserved
loop-x-preserved c =
    let p = c.loop-x.invariant.1 in
    let a = c.next.ensures.steps in (
      c.loop-x.invariant.0,
      on p a _ c.in-Some.is (
        all_on _ _ _ _ _ _ p.holds.0 (gives p a) c.in-Some.is c.is_child_row.ensures c.if-not-is_child_row.false,
        visit_turn _ _ _ _ _ _ _ _ p.holds.1 (gives p a) c.in-Some.is (gather_turn _ _ _ _ _ _ c.set_at.ensures c.with-more.ensures c.union-all.ensures),
      ),
    )

pub returns : goal.returns
returns c =
    let p = c.loop-x.invariant.1 in
    let e = gives p c.next.ensures.steps in
    own_same _ _ _ _ _ (all_end _ _ _ _ p.holds.0 e c.in-None.is) (visit_end _ _ _ _ _ _ p.holds.1 e c.in-None.is) c.same.ensures
