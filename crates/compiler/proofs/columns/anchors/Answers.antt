use Rattle.compiler.specs.Targets.{anchor_turn, anchors_fold}
use Rattle.laws.specs.Passes.{walk_begin, walk_turn, walk_done}
use Rattle.compiler.specs.Compilable.{tree_in, transition_in_lem}
use mathlib.Core.Path.{refl, ◌∙◌}
use native.Mathlib.Omega.{arith}
use Rattle.compiler.proofs.columns.anchors.Goals as goal

pub targets_of-targets-requires : goal.targets_of-targets-requires
targets_of-targets-requires c = transition_in_lem _ c.requires.numbers_keep _ c.requires.inside

pub loop-k-init : goal.loop-k-init
loop-k-init c = walk_begin _ _ _ _ _ refl c.empty-set.ensures

pub row_at-requires : goal.row_at-requires
row_at-requires c = record { rows = c.targets_of-targets.ensures.within; below = omega arith }

pub anchor_of-a-requires : goal.anchor_of-a-requires
anchor_of-a-requires c = (tree_in _ c.requires.numbers_keep, c.row_at.ensures.row)

pub loop-k-preserved : goal.loop-k-preserved
loop-k-preserved c =
    let l = c.loop-k in
    walk_turn _ _ _ _ _ _ l.k _ (omega arith) l.invariant refl (anchor_turn _ _ _ _ _ _ c.row_at.ensures.is c.anchor_of-a.ensures.is c.with-set.ensures)

pub returns : goal.returns
returns c = let l = c.loop-k in walk_done _ _ _ _ _ l.k (omega arith) l.invariant ∙ anchors_fold _ _ _ c.targets_of-targets.ensures.is
