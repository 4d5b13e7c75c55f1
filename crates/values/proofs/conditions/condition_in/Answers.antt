use borrow.Author.Rules.{rules}
use Rattle.values.specs.Conditions.{cond_unopened, from_inside, to_inside, to_fits, cond_whole, cond_other}
use Rattle.values.proofs.conditions.condition_in.Goals as goal

pub slice_bounds-name_len-start : goal.slice_bounds-name_len-start
slice_bounds-name_len-start c = search (rules, from_inside)

pub slice_bounds-is_spelt-end : goal.slice_bounds-is_spelt-end
slice_bounds-is_spelt-end c = search (rules, to_inside)

pub slice_bounds-is_closed-start : goal.slice_bounds-is_closed-start
slice_bounds-is_closed-start c = search (rules, to_inside)

pub returns-then-from-lt1 : goal.returns-then-from-lt1
returns-then-from-lt1 c = search (rules, cond_unopened)

pub slice_bounds-name_len-count : goal.slice_bounds-name_len-count
slice_bounds-name_len-count c = search (rules, from_inside)

pub overflow_add-to : goal.overflow_add-to
overflow_add-to c = search (rules, to_fits)

pub slice_bounds-is_closed-count : goal.slice_bounds-is_closed-count
slice_bounds-is_closed-count c = search (rules, to_inside)

pub returns-then-named-closed : goal.returns-then-named-closed
returns-then-named-closed c = cond_whole _ _ c.opened_at-from.ensures _ c.name_len.ensures c.if-from-lt1.false _ _ c.is_spelt-named.ensures c.is_closed-closed.ensures c.if-named-closed.true

pub returns : goal.returns
returns c = search (rules, cond_other)
