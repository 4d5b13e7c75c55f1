use mathlib.Core.Path.{refl, sym, ap, ◌∙◌}
use native.Mathlib.Omega.{arith}
use borrow.Author.Rules.{rules}
use Rattle.matching.specs.Sources.{indexed_transitions, indexed_source}
use Rattle.matching.specs.Climb.{choice_of, climb_begin, climb_turn, climb_here, climb_on, climb_top}
use Rattle.matching.specs.Climbed.{climbing_begin, climbing_met, climbing_on, climbing_top, climbing_here}
use Rattle.matching.proofs.climb.Goals as goal

pub climb-init : goal.climb-init
climb-init c = (c.requires.inside, let m = c.requires.compiled.ready.tables.sized.counts.rows in omega arith, refl, climbing_begin _ _ _ _ _ _)

pub returns-then-has : goal.returns-then-has
returns-then-has c = let o = c.climb.invariant in climbing_met _ _ _ _ _ _ _ _ o.3 _ (ap choice_of o.2) (sym c.has.ensures ∙ c.if-has.true)

pub bounds-starts-at : goal.bounds-starts-at
bounds-starts-at c = let s = c.requires.indexed.size in let v = c.climb.invariant in omega arith

pub bounds-starts-at-in-climb : goal.bounds-starts-at-in-climb
bounds-starts-at-in-climb c = let s = c.requires.indexed.size in let v = c.climb.invariant in omega arith

pub loop-t-init : goal.loop-t-init
loop-t-init c = let v = c.climb.invariant in
    let s = indexed_transitions _ _ _ c.requires.indexed v.0 in
    (omega arith, s.1, s.2, v.2, climb_begin _ _ _ _ _ _ _ s.0)

pub is_match-requires : goal.is_match-requires
is_match-requires c = record { compiled = c.requires.compiled; inside = let v = c.loop-t.invariant in let l = c.loop-t-test.true in omega arith }

pub loop-t-preserved : goal.loop-t-preserved
loop-t-preserved c = let v = c.loop-t.invariant in let b = v.0 in (omega arith, search rules, v.2, v.3, v.4 ∙ climb_turn _ _ _ _ _ _ _ c.loop-t-test.true (sym c.is_match.ensures ∙ c.if-is_match.false))

pub parent_of-p-requires : goal.parent_of-p-requires
parent_of-p-requires c = record { tables = c.requires.compiled.ready.tables; below = c.climb.invariant.0 }

pub overflow_cast-a-in-climb : goal.overflow_cast-a-in-climb
overflow_cast-a-in-climb c = let v = c.climb.invariant in omega arith

pub climb-preserved : goal.climb-preserved
climb-preserved c = let v = c.loop-t.invariant in
    let o = c.climb.invariant in
    (search rules, o.1, v.3, climbing_on _ _ _ _ _ _ _ _ o.3 _ c.with-rows.ensures _ c.if-a-p.false (v.4 ∙ climb_on _ _ _ _ _ _ _ _ c.loop-t-test.false c.parent_of-p.ensures c.if-a-p.false))

pub returns-then-is_match : goal.returns-then-is_match
returns-then-is_match c = let v = c.loop-t.invariant in
    let o = c.climb.invariant in
    climbing_here _ _ _ _ _ _ _ _ o.3 _ c.with-rows.ensures _ (sym c.has.ensures ∙ c.if-has.false) (v.4 ∙ climb_here _ _ _ _ _ _ _ c.loop-t-test.true (sym c.is_match.ensures ∙ c.if-is_match.true))
    (indexed_source _ _ _ _ c.requires.indexed o.0 v.0 c.loop-t-test.true)

pub returns-then-a-p : goal.returns-then-a-p
returns-then-a-p c = let v = c.loop-t.invariant in
    let o = c.climb.invariant in
    climbing_top _ _ _ _ _ _ _ _ o.3 _ c.with-rows.ensures _ (ap choice_of v.3) (v.4 ∙ climb_top _ _ _ _ _ _ _ _ c.loop-t-test.false c.parent_of-p.ensures c.if-a-p.true)
