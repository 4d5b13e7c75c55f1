use native.Mathlib.Omega.{arith}
use Rattle.rules1.specs.Classes.{next_named, next_split}
use Rattle.rules1.proofs.classes.next_classes.Goals as goal

pub split-high-requires : goal.split-high-requires
split-high-requires c = let few = c.requires.0.slots.tables.sized.counts.rows in let e = c.row_count-n.ensures in (c.requires.2.size, c.bytes_at-bytes.ensures.size, omega (arith, e, few), omega arith, next_named _ _ _ _ e _ c.requires.2)

pub split-requires : goal.split-requires
split-requires c = let few = c.requires.0.slots.tables.sized.counts.rows in let e = c.row_count-n.ensures in (c.split-high.ensures.size, c.bytes_at-bytes.ensures.size, omega (arith, e, few), omega arith, c.split-high.ensures.named)

pub returns : goal.returns
returns c = next_split _ _ _ _ c.row_count-n.ensures _ _ _ _ c.requires.2 c.bytes_at-bytes.ensures c.split-high.ensures c.split.ensures
