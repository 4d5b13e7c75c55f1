use native.Mathlib.Omega.{arith}
use Rattle.compiler.specs.Judging.{anchored_same}
use Rattle.compiler.proofs.judging.is_anchored.Goals as goal

pub set_at-own-requires : goal.set_at-own-requires
set_at-own-requires c = let p = c.requires.0.room in record { inside = omega arith }

pub anchors-requires : goal.anchors-requires
anchors-requires c = record { numbers_keep = c.requires.0.numbers_keep; inside = c.requires.1 }

pub returns : goal.returns
returns c = anchored_same _ _ c.args.t _ c.set_at-own.ensures _ c.anchors.ensures _ c.same.ensures
