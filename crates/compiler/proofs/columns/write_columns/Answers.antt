use Rattle.compiler.specs.Whole.{columns_written}
use native.Mathlib.Omega.{arith}
use Rattle.compiler.specs.Compilable.{tree_in}
use Rattle.compiler.proofs.columns.write_columns.Goals as goal

pub write_ancestors-requires : goal.write_ancestors-requires
write_ancestors-requires c = (tree_in _ c.requires.numbers_keep, (let r = c.requires.room in omega arith))

pub returns : goal.returns
returns c =
    columns_written _ c.row_count-rows.result _ _ _ _ _ c.row_count-rows.ensures c.requires.room c.write_ancestors.ensures c.write_descendants.ensures
    c.write_children_and_targets.ensures c.write_anchors.ensures
