use mathlib.Core.Path.{ap, ◌∙◌}
use native.Mathlib.Omega.{arith}
use lib.ListN.{length}
use Rattle.chart.specs.Writing.{length_put}
use Rattle.rules3.specs.Ancestry.{ancestors_begin, ancestors_turn, ancestors_end}
use Rattle.rules3.specs.Parents.{tree_parent}
use Rattle.rules3.proofs.write_ancestors.Goals as goal

pub put_set-requires : goal.put_set-requires
put_set-requires c = let k = c.requires.0.tables.sized.counts.some in let m = c.requires.1 in omega arith

pub loop-i-init : goal.loop-i-init
loop-i-init c = (omega arith, c.row_count-n.ensures, ancestors_begin _ c.requires.0 _ _ _ c.requires.1 c.empty.ensures c.put_set.ensures)

pub parent_row-p-requires : goal.parent_row-p-requires
parent_row-p-requires c =
    let n = c.row_count-n.ensures in
    let l = tree_parent _ c.requires.0 c.loop-i.i (omega arith) (omega arith) in
    record { row = record { tables = c.requires.0.tables; below = omega arith }; parent = omega arith }

pub set_of-above-requires : goal.set_of-above-requires
set_of-above-requires c = let l = c.parent_row-p.ensures.row.below in let r = c.loop-i.invariant.2.room in let s = c.loop-i.invariant.2.size in omega arith

pub put_set-requires-in-loop-i : goal.put_set-requires-in-loop-i
put_set-requires-in-loop-i c = let n = c.loop-i.invariant.1 in let r = c.loop-i.invariant.2.room in let s = c.loop-i.invariant.2.size in omega arith

pub loop-i-preserved : goal.loop-i-preserved
loop-i-preserved c = (
  omega arith,
  c.loop-i.invariant.1,
  ancestors_turn _ c.requires.0 c.loop-i.i _ _ _ _ _ _ c.loop-i.invariant.2 (omega arith) (omega arith) c.parent_row-p.ensures.is c.set_of-above.ensures c.with.ensures c.put_set-in-loop-i.ensures,
)

pub shape_of-sets : goal.shape_of-sets
shape_of-sets c = c.loop-i.invariant.2.size ∙ ap length c.put_set.ensures ∙ length_put _ 0 _ (let k = c.requires.0.tables.sized.counts.some in let m = c.requires.1 in omega arith)

pub returns : goal.returns
returns c = ancestors_end _ c.requires.0 c.loop-i.i _ _ _ _ c.requires.1 c.empty.ensures c.put_set.ensures c.loop-i.invariant.2 (omega arith)
