use Rattle.compiler.specs.Turns.{targets_begin, targets_kids, targets_turn, targets_end}
use native.Mathlib.Omega.{arith}
use Rattle.compiler.proofs.columns.write_default_targets.Goals as goal

pub loop-i-init : goal.loop-i-init
loop-i-init c = (c.row_count-rows.ensures, targets_begin _ c.requires.numbers_keep _ c.requires)

pub set_at-kids-requires : goal.set_at-kids-requires
set_at-kids-requires c = record { inside = omega arith }

pub default_targets-requires : goal.default_targets-requires
default_targets-requires c =
    let l = c.loop-i in
    record { numbers_keep = c.requires.numbers_keep; inside = omega arith; are = targets_kids _ c.requires.numbers_keep l.i _ _ _ l.invariant.1 (omega arith) c.set_at-kids.ensures }

pub put_set-requires : goal.put_set-requires
put_set-requires c = omega arith

pub loop-i-preserved : goal.loop-i-preserved
loop-i-preserved c =
    let l = c.loop-i in
    (l.invariant.0, targets_turn _ c.requires.numbers_keep _ l.i _ _ _ _ l.invariant.0 l.invariant.1 (omega arith) c.default_targets.ensures c.put_set.ensures)

pub shape_of-sets : goal.shape_of-sets
shape_of-sets c = c.loop-i.invariant.1.size

pub returns : goal.returns
returns c = let l = c.loop-i in targets_end _ c.requires.numbers_keep l.i _ _ l.invariant.1 (omega arith)
