use native.Mathlib.Omega.{arith}
use Rattle.legality.specs.Rows.{set_inside}
use Rattle.legality.proofs.is_inside.Goals as goal

pub returns : goal.returns
returns c = let n = c.requires.tables.sized.counts.rows in set_inside _ _ _ _ _ (omega arith) c.row_count.ensures c.below.ensures c.subset.ensures
