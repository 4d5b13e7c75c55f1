use mathlib.Core.Path.{ap}
use mathlib.Core.Bool.{not}
use native.Mathlib.Omega.{arith}
use Rattle.laws.specs.Loops.{each_below, said_not_yes, said_not_no}
use Rattle.rules1.specs.Classes.{classes_tell, ids_some_no}
use Rattle.rules1.proofs.classes.ids_differ.Goals as goal

pub returns-then-not-are_ids : goal.returns-then-not-are_ids
returns-then-not-are_ids c = ids_some_no _ _ (said_not_yes _ _ c.are_ids.ensures (ap not c.if-not-are_ids.true))

pub classes_of-class-requires : goal.classes_of-class-requires
classes_of-class-requires c = record { slots = c.requires; ids = each_below _ _ (said_not_no _ _ c.are_ids.ensures (ap not c.if-not-are_ids.false)) }

pub are_alone-requires : goal.are_alone-requires
are_alone-requires c = let e = c.row_count.ensures in let k = c.requires.tables.sized.counts in let f = k.rows in let g = k.some in (c.classes_of-class.ensures.size, omega (arith, e, g), omega (arith, e, f))

pub returns : goal.returns
returns c = classes_tell _ _ _ (record { slots = c.requires; ids = each_below _ _ (said_not_no _ _ c.are_ids.ensures (ap not c.if-not-are_ids.false)) }) c.classes_of-class.ensures _ (rw c.row_count.ensures at c.are_alone.ensures)
