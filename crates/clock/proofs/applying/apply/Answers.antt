use mathlib.Core.Path.{refl, ◌∙◌}
use native.Mathlib.Omega.{arith}
use Rattle.clock.specs.Applying.{apply_begin, apply_known, apply_on, apply_full, apply_end, one_length}
use Rattle.clock.proofs.applying.apply.Goals as goal

pub loop-i-init : goal.loop-i-init
loop-i-init c = let a = c in (apply_begin a.args.names.now a.args.timers.now a.args.clock.now a.requires.0 a.requires.1, refl, omega arith, refl)

pub apply_one-requires : goal.apply_one-requires
apply_one-requires c = let l = c.loop-i in let a = c in (l.invariant.0.holds, apply_known a.args.names.now a.args.timers.now a.args.clock.now l.clock l.i l.invariant.0 (omega arith))

pub shape_of-clock-then-apply_one : goal.shape_of-clock-then-apply_one
shape_of-clock-then-apply_one c = let l = c.loop-i in one_length _ _ _ _ _ l.invariant.0.holds c.apply_one.ensures ∙ l.invariant.3

pub returns-then-apply_one : goal.returns-then-apply_one
returns-then-apply_one c = let l = c.loop-i in let a = c in apply_full a.args.names.now a.args.timers.now a.args.clock.now l.clock l.i l.invariant.0 (omega arith) _ _ c.apply_one.ensures c.if-apply_one.true (one_length _ _ _ _ _ l.invariant.0.holds c.apply_one.ensures ∙ l.invariant.3)

pub loop-i-preserved : goal.loop-i-preserved
loop-i-preserved c =
    let l = c.loop-i in
    let a = c in
    (apply_on a.args.names.now a.args.timers.now a.args.clock.now l.clock l.i l.invariant.0 (omega arith) _ _ c.apply_one.ensures c.if-apply_one.false, l.invariant.1, omega arith, one_length _ _ _ _ _ l.invariant.0.holds c.apply_one.ensures ∙ l.invariant.3)

pub shape_of-clock : goal.shape_of-clock
shape_of-clock c = c.loop-i.invariant.3

pub returns : goal.returns
returns c = let l = c.loop-i in let a = c in apply_end a.args.names.now a.args.timers.now a.args.clock.now l.clock l.i l.invariant.0 (omega arith) l.invariant.3
