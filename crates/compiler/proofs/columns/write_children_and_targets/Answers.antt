use Rattle.compiler.specs.Whole.{pair_ready, pair_end}
use Rattle.compiler.proofs.columns.write_children_and_targets.Goals as goal

pub write_default_targets-requires : goal.write_default_targets-requires
write_default_targets-requires c = pair_ready _ _ _ c.requires c.write_children.ensures

pub returns : goal.returns
returns c = pair_end _ _ _ _ c.write_children.ensures c.write_default_targets.ensures
