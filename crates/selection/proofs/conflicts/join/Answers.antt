use Rattle.selection.specs.Kept.{joined_is}
use Rattle.selection.proofs.conflicts.join.Goals as goal

pub returns : goal.returns
returns c = joined_is _ _ _ _ _ c.requires c.union.ensures
