use borrow.Author.Rules.{rules}
use mathlib.Core.Path.{refl, sym, ◌∙◌}
use native.Mathlib.Omega.{arith}
use Rattle.events.specs.Choosing.{event_ready}
use Rattle.rounds.specs.Running.{marked, hushed, place_fits_lem, runs_begin, same_sizes, run_asked, count_few, new_length, run_stops, runs_again}
use Rattle.rounds.specs.Resting.{rest_is}
use Rattle.rounds.proofs.running.run.Goals as goal

pub put_index-requires : goal.put_index-requires
put_index-requires c = (c.requires.0.ready, refl)

pub loop-done-init : goal.loop-done-init
loop-done-init c = (refl, runs_begin _ _ _ _ _ _ _ _ _ _ c.requires.1 c.requires.2 c.place_of-at.ensures)

pub offset_bounds-trace-at : goal.offset_bounds-trace-at
offset_bounds-trace-at c = let n = c.loop-done.invariant.1.room in let m = c.loop-done.invariant.1.size in let l = c.well_formed.1.1.1.1.1.1.1.0.1 in record { fits = omega arith }

pub slice_bounds-rest-count : goal.slice_bounds-rest-count
slice_bounds-rest-count c = c.loop-done.invariant.1.room

pub slice_bounds-rest-start : goal.slice_bounds-rest-start
slice_bounds-rest-start c = let n = c.loop-done.invariant.1.room in search rules

pub slice_bounds-rest-end : goal.slice_bounds-rest-end
slice_bounds-rest-end c = let n = c.loop-done.invariant.1.room in search rules

pub slice_bounds-round-end : goal.slice_bounds-round-end
slice_bounds-round-end c = sym c.put_index.ensures.0.size

pub slice_bounds-round-end-in-loop-done : goal.slice_bounds-round-end-in-loop-done
slice_bounds-round-end-in-loop-done c = sym c.loop-done.invariant.0

pub round-turn-requires : goal.round-turn-requires
round-turn-requires c = (record { compiled = c.requires.0; indexed = c.put_index.ensures.0 }, c.loop-done.invariant.1.holds, c.loop-done.invariant.0, c.loop-done.invariant.1.ticks, hushed _ _ c.requires.0 _ _ _ _ _ _ _ _ _ _ _ _ _ _ _ c.loop-done.invariant.1 _ (c.put_index.ensures.1 ∙ marked c.mark_of.result _ c.mark_of.ensures))

pub overflow_add-count : goal.overflow_add-count
overflow_add-count c = let n = count_few _ _ c.requires.0 _ _ _ _ _ _ _ _ _ _ _ _ _ _ _ c.loop-done.invariant.1 c.loop-done-test.true (let m = c.ranges.rounds.fits in omega arith) _ (c.put_index.ensures.1 ∙ marked c.mark_of.result _ c.mark_of.ensures) _ _ _ _ _ _ c.round-turn.ensures in let l = c.loop-done-test.true in let m = c.ranges.rounds.fits in record { fits = omega arith }

pub returns-in_default : goal.returns-in_default
returns-in_default c = run_stops _ _ c.requires.0 _ _ _ _ _ _ _ _ _ _ _ _ _ _ _ c.loop-done.invariant.1 c.loop-done-test.true (let m = c.ranges.rounds.fits in omega arith) _ (c.put_index.ensures.1 ∙ marked c.mark_of.result _ c.mark_of.ensures) _ _ _ _ _ _ c.round-turn.ensures c.in_default.not-Did _ c.stopped.ensures

pub loop-done-preserved : goal.loop-done-preserved
loop-done-preserved c = (c.round-turn.auto.items ∙ c.loop-done.invariant.0, runs_again _ _ c.requires.0 _ _ _ _ _ _ _ _ _ _ _ _ _ _ _ c.loop-done.invariant.1 c.loop-done-test.true (let m = c.ranges.rounds.fits in omega arith) _ (c.put_index.ensures.1 ∙ marked c.mark_of.result _ c.mark_of.ensures) _ _ _ _ _ _ c.round-turn.ensures c.in-Did.is)

pub slice_bounds-rest_status-end : goal.slice_bounds-rest_status-end
slice_bounds-rest_status-end c = sym c.put_index.ensures.0.size

pub slice_bounds-rest_status-end-2 : goal.slice_bounds-rest_status-end-2
slice_bounds-rest_status-end-2 c = sym c.loop-done.invariant.0

pub rest_status-requires : goal.rest_status-requires
rest_status-requires c = event_ready _ _ _ (record { compiled = c.requires.0; indexed = c.put_index.ensures.0 }) _ _ _ _ _ c.loop-done.invariant.1.holds c.loop-done.invariant.0

pub shape_of-trace-in_default : goal.shape_of-trace-in_default
shape_of-trace-in_default c = new_length _ _ c.requires.0 _ _ _ _ _ _ _ _ _ _ _ _ _ _ _ c.loop-done.invariant.1 c.loop-done-test.true (let m = c.ranges.rounds.fits in omega arith) _ (c.put_index.ensures.1 ∙ marked c.mark_of.result _ c.mark_of.ensures) _ _ _ _ _ _ c.round-turn.ensures ∙ c.loop-done.invariant.1.size

pub shape_of-numbers : goal.shape_of-numbers
shape_of-numbers c = (same_sizes _ _ c.requires.0 _ _ _ _ _ _ _ _ _ _ _ _ _ _ _ c.loop-done.invariant.1 c.requires.1 c.requires.2).0

pub shape_of-internal : goal.shape_of-internal
shape_of-internal c = (same_sizes _ _ c.requires.0 _ _ _ _ _ _ _ _ _ _ _ _ _ _ _ c.loop-done.invariant.1 c.requires.1 c.requires.2).1

pub shape_of-external : goal.shape_of-external
shape_of-external c = (same_sizes _ _ c.requires.0 _ _ _ _ _ _ _ _ _ _ _ _ _ _ _ c.loop-done.invariant.1 c.requires.1 c.requires.2).2

pub returns : goal.returns
returns c =
    run_asked _ _ c.requires.0 _ _ _ _ _ _ _ _ _ _ _ _ _ _ _ c.loop-done.invariant.1 (let l = c.loop-done-test.false in let m = c.loop-done.auto.done-end in omega arith) _
    (rest_is _ _ c.requires.0 _ _ _ c.loop-done.invariant.1.holds _ c.rest_status.ensures)

pub shape_of-clock : goal.shape_of-clock
shape_of-clock c = (same_sizes _ _ c.requires.0 _ _ _ _ _ _ _ _ _ _ _ _ _ _ _ c.loop-done.invariant.1 c.requires.1 c.requires.2).3

pub shape_of-trace : goal.shape_of-trace
shape_of-trace c = c.loop-done.invariant.1.size

pub overflow_add-at : goal.overflow_add-at
overflow_add-at c = let n = place_fits_lem _ _ c.requires.0 _ _ _ _ _ _ _ _ _ _ _ _ _ _ _ c.loop-done.invariant.1 c.loop-done-test.true (let m = c.ranges.rounds.fits in omega arith) _ (c.put_index.ensures.1 ∙ marked c.mark_of.result _ c.mark_of.ensures) _ _ _ _ _ _ c.round-turn.ensures in let m = c.loop-done.invariant.1.size in let l = c.well_formed.1.1.1.1.1.1.1.0.0 in record { fits = omega arith }
