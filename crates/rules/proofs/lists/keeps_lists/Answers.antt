use native.Mathlib.Omega.{arith}
use Rattle.rules.proofs.lists.keeps_lists.Goals as goal

pub put_ancestors-requires : goal.put_ancestors-requires
put_ancestors-requires c = (c.requires.0, (let k = c.requires.0.tables.sized.counts.rows in omega arith))

pub lists_keep-requires : goal.lists_keep-requires
lists_keep-requires c = record { tree = c.requires.0; rule = c.requires.1; ancestry = c.put_ancestors.ensures }
