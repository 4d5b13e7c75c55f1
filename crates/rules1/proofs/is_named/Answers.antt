use Rattle.rules1.specs.Raises.{slot_named}
use Rattle.tables.specs.Ranges.{slot_in_lem}
use native.Mathlib.Omega.{arith}
use Rattle.rules1.proofs.is_named.Goals as goal

pub overflow_cast-n : goal.overflow_cast-n
overflow_cast-n c = let k = c.requires.0.sized.counts.names in let l = c.requires.2 in omega arith

pub slot_of-requires : goal.slot_of-requires
slot_of-requires c = slot_in_lem _ _ _ c.requires.1 c.requires.2

pub returns : goal.returns
returns c = slot_named _ _ _ _ _ c.slot_of.ensures c.name_of.ensures c.is_name.ensures
