use Rattle.rules3.specs.Ancestry.{over_ancestry}
use Rattle.rules3.proofs.put_ancestors.Goals as goal

pub returns : goal.returns
returns c = over_ancestry _ c.requires.0 _ _ c.requires.1 c.write_ancestors.ensures
