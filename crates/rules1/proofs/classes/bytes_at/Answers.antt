use native.Mathlib.Omega.{arith}
use Rattle.rules1.specs.Ids.{id_slot_lem}
use Rattle.rules1.specs.Classes.{bytes_begin, bytes_turn, bytes_done, byte_read}
use Rattle.rules1.proofs.classes.bytes_at.Goals as goal

pub loop-i-init : goal.loop-i-init
loop-i-init c = (omega arith, bytes_begin _ _ _)

pub slot_of-slot-requires : goal.slot_of-slot-requires
slot_of-slot-requires c = let e = c.row_count-n.ensures in id_slot_lem _ _ c.requires.0.slots c.loop-i.i _ (omega arith) (c.requires.0.ids c.loop-i.i (omega (arith, e))) c.id_of.ensures

pub loop-i-preserved : goal.loop-i-preserved
loop-i-preserved c = let e = c.row_count-n.ensures in let few = c.requires.0.slots.tables.sized.counts.rows in (omega arith, bytes_turn _ _ _ c.loop-i.i _ _ c.loop-i.invariant.1 (omega (arith, e, few)) (byte_read _ _ _ _ c.args.p _ c.id_of.ensures c.slot_of-slot.ensures) (omega (arith, c.shared_slice_known-in-loop-i-1.given c.args.p)))

pub returns : goal.returns
returns c = let e = c.row_count-n.ensures in bytes_done _ _ _ c.loop-i.i _ _ (omega (arith, e)) c.loop-i.invariant.1
