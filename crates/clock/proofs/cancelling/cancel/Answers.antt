use mathlib.Core.Path.{sym, ◌∙◌}
use Prim.Native.Nat.{◌-◌}
use native.Mathlib.Omega.{arith}
use Rattle.definition.specs.declared.Mode.TheVariants.{Running}
use Rattle.clock.specs.Spelled.{holds_length}
use Rattle.clock.specs.Cancelling.{pending_room, cancel_begin, cancel_yes, cancel_no, cancel_end}
use Rattle.clock.proofs.cancelling.cancel.Goals as goal

pub count_of-i-requires : goal.count_of-i-requires
count_of-i-requires c = holds_length Running _ c.requires

pub loop-i-init : goal.loop-i-init
loop-i-init c = cancel_begin c.args.clock.now c.args.id.now _ c.requires c.count_of-i.ensures

pub has_id-requires : goal.has_id-requires
has_id-requires c = let l = c.loop-i in let m = l.invariant.most in pending_room l.clock (l.i - 1) l.invariant.holds (omega arith)

pub remove-requires : goal.remove-requires
remove-requires c = let l = c.loop-i in let m = l.invariant.most in (l.invariant.holds, omega arith)

pub loop-i-preserved-then-has_id : goal.loop-i-preserved-then-has_id
loop-i-preserved-then-has_id c = let l = c.loop-i in cancel_yes c.args.clock.now l.clock c.args.id.now l.i (l.i - 1) l.invariant (omega arith) _ c.has_id.ensures c.if-has_id.true _ c.remove.ensures

pub loop-i-preserved : goal.loop-i-preserved
loop-i-preserved c = let l = c.loop-i in cancel_no c.args.clock.now l.clock c.args.id.now l.i (l.i - 1) l.invariant (omega arith) _ c.has_id.ensures c.if-has_id.false

pub shape_of-clock : goal.shape_of-clock
shape_of-clock c = holds_length Running _ c.loop-i.invariant.holds ∙ sym (holds_length Running _ c.requires)

pub returns : goal.returns
returns c = let l = c.loop-i in cancel_end c.args.clock.now l.clock c.args.id.now l.i l.invariant (omega arith)
