use borrow.Author.Rules.{rules}
use native.Mathlib.Omega.{arith}
use Rattle.calls.specs.Turns.{left_fits, result_part}
use Rattle.calls.specs.InPlace.{in_begin, kind_read, call_read, room_read, in_read, in_ends, in_stops, fewer_left, same_sizes}
use Rattle.calls.proofs.perform_calls.Goals as goal

pub loop-performed-init : goal.loop-performed-init
loop-performed-init c = in_begin _ _ _ _ _ _ _ _ _ _ c.check-checks.ensures c.requires

pub cells_at-cells-requires : goal.cells_at-cells-requires
cells_at-cells-requires c = c.loop-performed-test.true

pub overflow_add-end : goal.overflow_add-end
overflow_add-end c = let g = (left_fits _ _ _ _ _ _ _ _ _ _ _ c.loop-performed.invariant.left c.loop-performed-test.true (call_read _ _ _ _ _ _ _ _ _ _ _ _ _ _ _ _ _ _ c.loop-performed.invariant _ c.cells_at-cells.ensures _ _ c.is_call.ensures c.if-not-is_call.false)).1 in let e = c.loop-performed.invariant.left.trace_size in let r = room_read _ _ _ _ _ _ _ _ _ _ _ _ _ _ _ _ _ _ c.loop-performed.invariant _ c.cells_at-cells.ensures in let l = c.well_formed.1.1.1.1.1.1.1.1.0 in record { fits = omega arith }

pub offset_bounds-trace-used : goal.offset_bounds-trace-used
offset_bounds-trace-used c = let g = c.loop-performed.invariant.left.windows_in in let e = c.loop-performed.invariant.left.trace_size in let l = c.well_formed.1.1.1.1.1.1.1.1.0 in record { fits = omega arith }

pub slice_bounds-perform_call-end : goal.slice_bounds-perform_call-end
slice_bounds-perform_call-end c = let g = left_fits _ _ _ _ _ _ _ _ _ _ _ c.loop-performed.invariant.left c.loop-performed-test.true (call_read _ _ _ _ _ _ _ _ _ _ _ _ _ _ _ _ _ _ c.loop-performed.invariant _ c.cells_at-cells.ensures _ _ c.is_call.ensures c.if-not-is_call.false) in let r = room_read _ _ _ _ _ _ _ _ _ _ _ _ _ _ _ _ _ _ c.loop-performed.invariant _ c.cells_at-cells.ensures in search rules

pub perform_call-done-requires : goal.perform_call-done-requires
perform_call-done-requires c = (c.loop-performed.invariant.checks, c.loop-performed.invariant.lengths, kind_read _ _ _ _ _ _ _ _ _ _ _ _ _ _ _ _ _ _ c.loop-performed.invariant _ c.cells_at-cells.ensures (left_fits _ _ _ _ _ _ _ _ _ _ _ c.loop-performed.invariant.left c.loop-performed-test.true (call_read _ _ _ _ _ _ _ _ _ _ _ _ _ _ _ _ _ _ c.loop-performed.invariant _ c.cells_at-cells.ensures _ _ c.is_call.ensures c.if-not-is_call.false)).2)

pub overflow_mul-put : goal.overflow_mul-put
overflow_mul-put c = let g = (left_fits _ _ _ _ _ _ _ _ _ _ _ c.loop-performed.invariant.left c.loop-performed-test.true (call_read _ _ _ _ _ _ _ _ _ _ _ _ _ _ _ _ _ _ c.loop-performed.invariant _ c.cells_at-cells.ensures _ _ c.is_call.ensures c.if-not-is_call.false)).0 in let e = c.loop-performed.invariant.left.cells_size in let l = c.well_formed.1.1.1.1.1.1.0 in record { fits = omega arith }

pub overflow_add-put : goal.overflow_add-put
overflow_add-put c = let g = (left_fits _ _ _ _ _ _ _ _ _ _ _ c.loop-performed.invariant.left c.loop-performed-test.true (call_read _ _ _ _ _ _ _ _ _ _ _ _ _ _ _ _ _ _ c.loop-performed.invariant _ c.cells_at-cells.ensures _ _ c.is_call.ensures c.if-not-is_call.false)).0 in let e = c.loop-performed.invariant.left.cells_size in let l = c.well_formed.1.1.1.1.1.1.0 in record { fits = omega arith }

pub overflow_add-put_end : goal.overflow_add-put_end
overflow_add-put_end c = let g = (left_fits _ _ _ _ _ _ _ _ _ _ _ c.loop-performed.invariant.left c.loop-performed-test.true (call_read _ _ _ _ _ _ _ _ _ _ _ _ _ _ _ _ _ _ c.loop-performed.invariant _ c.cells_at-cells.ensures _ _ c.is_call.ensures c.if-not-is_call.false)).0 in let e = c.loop-performed.invariant.left.cells_size in let l = c.well_formed.1.1.1.1.1.1.0 in record { fits = omega arith }

pub offset_bounds-calls-put : goal.offset_bounds-calls-put
offset_bounds-calls-put c = let g = (left_fits _ _ _ _ _ _ _ _ _ _ _ c.loop-performed.invariant.left c.loop-performed-test.true (call_read _ _ _ _ _ _ _ _ _ _ _ _ _ _ _ _ _ _ c.loop-performed.invariant _ c.cells_at-cells.ensures _ _ c.is_call.ensures c.if-not-is_call.false)).0 in let e = c.loop-performed.invariant.left.cells_size in let l = c.well_formed.1.1.1.1.1.1.0 in record { fits = omega arith }

pub slice_bounds-put_result-start : goal.slice_bounds-put_result-start
slice_bounds-put_result-start c = let g = left_fits _ _ _ _ _ _ _ _ _ _ _ c.loop-performed.invariant.left c.loop-performed-test.true (call_read _ _ _ _ _ _ _ _ _ _ _ _ _ _ _ _ _ _ c.loop-performed.invariant _ c.cells_at-cells.ensures _ _ c.is_call.ensures c.if-not-is_call.false) in search rules

pub slice_bounds-put_result-end : goal.slice_bounds-put_result-end
slice_bounds-put_result-end c = let g = left_fits _ _ _ _ _ _ _ _ _ _ _ c.loop-performed.invariant.left c.loop-performed-test.true (call_read _ _ _ _ _ _ _ _ _ _ _ _ _ _ _ _ _ _ c.loop-performed.invariant _ c.cells_at-cells.ensures _ _ c.is_call.ensures c.if-not-is_call.false) in search rules

pub put_result-requires : goal.put_result-requires
put_result-requires c = result_part _ _ _ _ _ _ _ _ _ _ _ c.loop-performed.invariant.left c.loop-performed-test.true (call_read _ _ _ _ _ _ _ _ _ _ _ _ _ _ _ _ _ _ c.loop-performed.invariant _ c.cells_at-cells.ensures _ _ c.is_call.ensures c.if-not-is_call.false)

pub overflow_add-performed : goal.overflow_add-performed
overflow_add-performed c = let g = (left_fits _ _ _ _ _ _ _ _ _ _ _ c.loop-performed.invariant.left c.loop-performed-test.true (call_read _ _ _ _ _ _ _ _ _ _ _ _ _ _ _ _ _ _ c.loop-performed.invariant _ c.cells_at-cells.ensures _ _ c.is_call.ensures c.if-not-is_call.false)).0 in let e = c.loop-performed.invariant.left.cells_size in let l = c.well_formed.1.1.1.1.1.1.0 in record { fits = omega arith }

pub loop-performed-smaller : goal.loop-performed-smaller
loop-performed-smaller c = fewer_left _ _ _ c.loop-performed.invariant.left.cells_size c.loop-performed-test.true

pub loop-performed-preserved : goal.loop-performed-preserved
loop-performed-preserved c = in_read _ _ _ _ _ _ _ _ _ _ _ _ _ _ _ _ _ _ c.loop-performed.invariant _ c.cells_at-cells.ensures c.loop-performed-test.true (call_read _ _ _ _ _ _ _ _ _ _ _ _ _ _ _ _ _ _ c.loop-performed.invariant _ c.cells_at-cells.ensures _ _ c.is_call.ensures c.if-not-is_call.false) _ _ _ _ _ _ _ c.perform_call-done.ensures c.put_result.ensures c.trace-1.given.0 _ c.checks_after-checks.ensures c.numbers-1.given c.internal-1.given c.external-1.given c.clock-1.given

pub returns-after-loop-performed : goal.returns-after-loop-performed
returns-after-loop-performed c = in_ends _ _ _ _ _ _ _ _ _ _ _ _ _ _ _ _ _ _ c.loop-performed.invariant c.loop-performed-test.false

pub returns-then-not-is_call : goal.returns-then-not-is_call
returns-then-not-is_call c = in_stops _ _ _ _ _ _ _ _ _ _ _ _ _ _ _ _ _ _ c.loop-performed.invariant c.loop-performed-test.true (call_read _ _ _ _ _ _ _ _ _ _ _ _ _ _ _ _ _ _ c.loop-performed.invariant _ c.cells_at-cells.ensures _ _ c.is_call.ensures c.if-not-is_call.true)

pub shape_of-numbers-after-loop-performed : goal.shape_of-numbers-after-loop-performed
shape_of-numbers-after-loop-performed c = (same_sizes _ _ _ _ _ _ _ _ c.loop-performed.invariant.lengths c.requires).0

pub shape_of-internal-after-loop-performed : goal.shape_of-internal-after-loop-performed
shape_of-internal-after-loop-performed c = (same_sizes _ _ _ _ _ _ _ _ c.loop-performed.invariant.lengths c.requires).1

pub shape_of-external-after-loop-performed : goal.shape_of-external-after-loop-performed
shape_of-external-after-loop-performed c = (same_sizes _ _ _ _ _ _ _ _ c.loop-performed.invariant.lengths c.requires).2

pub shape_of-clock-after-loop-performed : goal.shape_of-clock-after-loop-performed
shape_of-clock-after-loop-performed c = (same_sizes _ _ _ _ _ _ _ _ c.loop-performed.invariant.lengths c.requires).3

pub shape_of-calls-after-loop-performed : goal.shape_of-calls-after-loop-performed
shape_of-calls-after-loop-performed c = c.loop-performed.invariant.left.cells_size

pub shape_of-trace-after-loop-performed : goal.shape_of-trace-after-loop-performed
shape_of-trace-after-loop-performed c = c.loop-performed.invariant.left.trace_size

pub shape_of-numbers-then-not-is_call : goal.shape_of-numbers-then-not-is_call
shape_of-numbers-then-not-is_call c = (same_sizes _ _ _ _ _ _ _ _ c.loop-performed.invariant.lengths c.requires).0

pub shape_of-internal-then-not-is_call : goal.shape_of-internal-then-not-is_call
shape_of-internal-then-not-is_call c = (same_sizes _ _ _ _ _ _ _ _ c.loop-performed.invariant.lengths c.requires).1

pub shape_of-external-then-not-is_call : goal.shape_of-external-then-not-is_call
shape_of-external-then-not-is_call c = (same_sizes _ _ _ _ _ _ _ _ c.loop-performed.invariant.lengths c.requires).2

pub shape_of-clock-then-not-is_call : goal.shape_of-clock-then-not-is_call
shape_of-clock-then-not-is_call c = (same_sizes _ _ _ _ _ _ _ _ c.loop-performed.invariant.lengths c.requires).3

pub shape_of-calls-then-not-is_call : goal.shape_of-calls-then-not-is_call
shape_of-calls-then-not-is_call c = c.loop-performed.invariant.left.cells_size

pub shape_of-trace-then-not-is_call : goal.shape_of-trace-then-not-is_call
shape_of-trace-then-not-is_call c = c.loop-performed.invariant.left.trace_size
