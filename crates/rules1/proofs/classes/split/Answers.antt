use native.Mathlib.Omega.{arith}
use Rattle.rules1.specs.Splits.{firsts_begin, firsts_turn, firsts_done, cell_low}
use Rattle.rules1.proofs.classes.split.Goals as goal

pub loop-i-init : goal.loop-i-init
loop-i-init c = (omega arith, firsts_begin _ _ _)

pub overflow_cast-cell : goal.overflow_cast-cell
overflow_cast-cell c = omega (arith, c.shared_slice_known-in-loop-i-1.given c.loop-i.i)

pub overflow_mul-cell : goal.overflow_mul-cell
overflow_mul-cell c = omega (arith, c.shared_slice_known-in-loop-i-1.given c.loop-i.i)

pub overflow_add-cell : goal.overflow_add-cell
overflow_add-cell c = omega (arith, c.shared_slice_known-in-loop-i-1.given c.loop-i.i)

pub bounds-firsts-cell : goal.bounds-firsts-cell
bounds-firsts-cell c = let a = c in let o = c.loop-i in cell_low a.args.class.now a.args.bytes.now a.args.shift a.args.n a.requires.4 o.i (omega arith) (omega arith) (omega arith)

pub bounds-firsts-cell-in-loop-i : goal.bounds-firsts-cell-in-loop-i
bounds-firsts-cell-in-loop-i c = let a = c in let o = c.loop-i in cell_low a.args.class.now a.args.bytes.now a.args.shift a.args.n a.requires.4 o.i (omega arith) (omega arith) (omega arith)

pub loop-i-preserved : goal.loop-i-preserved
loop-i-preserved c = let a = c in
    let o = c.loop-i in
    let low = cell_low a.args.class.now a.args.bytes.now a.args.shift a.args.n a.requires.4 o.i (omega arith) (omega arith) (omega arith) in
    (omega arith, firsts_turn a.args.class.now a.args.bytes.now a.args.shift o.firsts o.out o.i o.invariant.1 (omega arith) (omega arith) low _ c.first_of-first.ensures)

pub returns : goal.returns
returns c = firsts_done _ _ _ _ _ c.loop-i.i _ (omega arith) c.loop-i.invariant.1
