use borrow.Author.Rules.{rules}
use mathlib.Core.Path.{refl, sym, ◌∙◌}
use native.Mathlib.Omega.{arith}
use Rattle.clock.specs.Spelled.{holds_length}
use Rattle.rounds.specs.Timing.{first_known, first_full, first_next, first_only, others_done, others_fit, next_known, others_full, others_next}
use Rattle.rounds.proofs.timing.apply_timers.Goals as goal

pub overflow_mul-end : goal.overflow_mul-end
overflow_mul-end c = let e = c.min-first.ensures in search rules

pub overflow_add-end : goal.overflow_add-end
overflow_add-end c = let e = c.min-first.ensures in search rules

pub slice_bounds-apply-start : goal.slice_bounds-apply-start
slice_bounds-apply-start c = let e = c.min-first.ensures in let n = c.requires.2.noted.size in search rules

pub slice_bounds-apply-end : goal.slice_bounds-apply-end
slice_bounds-apply-end c = let e = c.min-first.ensures in let n = c.requires.2.noted.size in search rules

pub apply-requires : goal.apply-requires
apply-requires c = (c.requires.2.holds, first_known _ _ _ _ _ c.requires.2 _ c.min-first.ensures)

pub shape_of-clock-then-apply : goal.shape_of-clock-then-apply
shape_of-clock-then-apply c = c.apply.ensures.size

pub returns-then-apply : goal.returns-then-apply
returns-then-apply c = first_full _ _ _ _ _ c.requires.2 _ c.min-first.ensures _ _ c.apply.ensures c.if-apply.true

pub shape_of-clock-then-timers-le-NOTED : goal.shape_of-clock-then-timers-le-NOTED
shape_of-clock-then-timers-le-NOTED c = c.apply.ensures.size

pub returns-then-timers-le-NOTED : goal.returns-then-timers-le-NOTED
returns-then-timers-le-NOTED c = first_only _ _ _ _ _ c.requires.2 _ c.min-first.ensures _ _ c.apply.ensures c.if-apply.false c.if-timers-le-NOTED.true

pub loop-done-init : goal.loop-done-init
loop-done-init c = (refl, record { on = λ first h r. r })

pub slice_bounds-note_from-end : goal.slice_bounds-note_from-end
slice_bounds-note_from-end c = sym c.loop-done.invariant.0

pub note_from-requires : goal.note_from-requires
note_from-requires c = (c.requires.0, c.requires.1, record { size = let n = c.loop-done.invariant.0 in omega arith; fits = others_fit _ _ _ _ _ c.requires.2 _ _ (c.loop-done.invariant.1.on c.args.clock.now c.requires.2.holds (first_next _ _ _ _ _ c.requires.2 _ c.min-first.ensures _ _ c.apply.ensures c.if-apply.false)) })

pub overflow_mul-to : goal.overflow_mul-to
overflow_mul-to c = let e = c.min-n.ensures in search rules

pub overflow_add-to : goal.overflow_add-to
overflow_add-to c = let e = c.min-n.ensures in search rules

pub slice_bounds-apply-start-in-loop-done : goal.slice_bounds-apply-start-in-loop-done
slice_bounds-apply-start-in-loop-done c = let n = c.note_from.ensures.size in let m = c.loop-done.invariant.0 in search rules

pub slice_bounds-apply-end-in-loop-done : goal.slice_bounds-apply-end-in-loop-done
slice_bounds-apply-end-in-loop-done c = let e = c.min-n.ensures in let n = c.note_from.ensures.size in let m = c.loop-done.invariant.0 in search rules

pub apply-requires-in-loop-done : goal.apply-requires-in-loop-done
apply-requires-in-loop-done c = ((c.loop-done.invariant.1.on c.args.clock.now c.requires.2.holds (first_next _ _ _ _ _ c.requires.2 _ c.min-first.ensures _ _ c.apply.ensures c.if-apply.false)).holds, next_known _ _ _ _ _ c.requires.2 _ _ (c.loop-done.invariant.1.on c.args.clock.now c.requires.2.holds (first_next _ _ _ _ _ c.requires.2 _ c.min-first.ensures _ _ c.apply.ensures c.if-apply.false)) _ _ c.note_from.ensures c.loop-done.invariant.0 _ c.min-n.ensures c.loop-done-test.true)

pub shape_of-clock-then-apply-2 : goal.shape_of-clock-then-apply-2
shape_of-clock-then-apply-2 c = c.apply-in-loop-done.ensures.size ∙ holds_length _ _ (c.loop-done.invariant.1.on c.args.clock.now c.requires.2.holds (first_next _ _ _ _ _ c.requires.2 _ c.min-first.ensures _ _ c.apply.ensures c.if-apply.false)).holds ∙ sym (holds_length _ _ c.requires.2.holds)

pub returns-then-apply-2 : goal.returns-then-apply-2
returns-then-apply-2 c = others_full _ _ _ _ _ c.requires.2 _ _ (c.loop-done.invariant.1.on c.args.clock.now c.requires.2.holds (first_next _ _ _ _ _ c.requires.2 _ c.min-first.ensures _ _ c.apply.ensures c.if-apply.false)) _ _ c.note_from.ensures c.loop-done.invariant.0 _ c.min-n.ensures c.loop-done-test.true _ _ c.apply-in-loop-done.ensures c.if-apply-2.true

pub overflow_add-done : goal.overflow_add-done
overflow_add-done c = let e = c.min-n.ensures in let l = c.loop-done-test.true in let a = c.requires.2.few in let b = c.requires.2.noted.timers in search rules

pub loop-done-smaller : goal.loop-done-smaller
loop-done-smaller c = let e = c.min-n.ensures in let l = c.loop-done-test.true in omega arith

pub loop-done-preserved : goal.loop-done-preserved
loop-done-preserved c = (c.note_from.ensures.size ∙ c.loop-done.invariant.0, record { on = λ first h r. others_next _ _ _ _ first (record { stand = c.requires.2.stand; noted = c.requires.2.noted; few = c.requires.2.few; holds = h }) _ _ (c.loop-done.invariant.1.on first h r) _ _ c.note_from.ensures c.loop-done.invariant.0 _ c.min-n.ensures c.loop-done-test.true _ _ c.apply-in-loop-done.ensures c.if-apply-2.false })

pub shape_of-clock : goal.shape_of-clock
shape_of-clock c = holds_length _ _ (c.loop-done.invariant.1.on c.args.clock.now c.requires.2.holds (first_next _ _ _ _ _ c.requires.2 _ c.min-first.ensures _ _ c.apply.ensures c.if-apply.false)).holds ∙ sym (holds_length _ _ c.requires.2.holds)

pub returns : goal.returns
returns c = others_done _ _ _ _ _ c.requires.2 _ _ (c.loop-done.invariant.1.on c.args.clock.now c.requires.2.holds (first_next _ _ _ _ _ c.requires.2 _ c.min-first.ensures _ _ c.apply.ensures c.if-apply.false)) c.loop-done-test.false
