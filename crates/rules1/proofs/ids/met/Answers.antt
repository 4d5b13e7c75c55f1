use mathlib.Core.Bool.{true, false}
use Prim.Native.Nat.{◌<◌}
use native.Mathlib.Omega.{arith}
use Rattle.rules1.specs.Ids.{id_slot_lem, before_slot, compared}
use Rattle.rules1.specs.Chains.{asked_begin, asked_low, asked_turn, met_none, met_twice, met_many}
use Rattle.rules1.proofs.ids.met.Goals as goal

pub bounds-heads-key : goal.bounds-heads-key
bounds-heads-key c = let pre = c.requires in let s = pre.so_far.room in let l = pre.low in omega (arith, s, l)

pub loop-e-init : goal.loop-e-init
loop-e-init c = (omega arith, asked_begin _ _ _ _ _ _ c.requires)

pub returns-then-x-eq0 : goal.returns-then-x-eq0
returns-then-x-eq0 c = met_none _ _ _ _ _ _ c.requires c.loop-e.x _ c.loop-e.invariant.1 c.if-x-eq0.true

pub id_of-requires : goal.id_of-requires
id_of-requires c = let pre = c.requires in record { tables = pre.turn.slots.tables; below = pre.turn.below }

pub slot_of-own-requires : goal.slot_of-own-requires
slot_of-own-requires c = let pre = c.requires in id_slot_lem _ _ pre.turn.slots c.args.r.0 _ pre.positive pre.own c.id_of.ensures

pub id_of-requires-in-loop-e : goal.id_of-requires-in-loop-e
id_of-requires-in-loop-e c = let pre = c.requires in let x = c.loop-e.x in let b = asked_low _ _ _ _ _ _ pre x _ c.loop-e.invariant.1 in record { tables = pre.turn.slots.tables; below = let l = pre.turn.below in omega (arith, b, l) }

pub slot_of-requires : goal.slot_of-requires
slot_of-requires c = let pre = c.requires in let x = c.loop-e.x in let b = asked_low _ _ _ _ _ _ pre x _ c.loop-e.invariant.1 in let d = c.if-x-eq0.false in let p : 0 < x = omega (arith, d) in before_slot _ _ _ pre.turn x _ p b c.id_of-in-loop-e.ensures

pub returns-then-equal : goal.returns-then-equal
returns-then-equal c = let pre = c.requires in let x = c.loop-e.x in let b = asked_low _ _ _ _ _ _ pre x _ c.loop-e.invariant.1 in let d = c.if-x-eq0.false in let p : 0 < x = omega (arith, d) in met_twice _ _ _ _ _ _ pre x _ c.loop-e.invariant.1 b (compared _ _ _ pre.turn x _ _ _ _ _ true pre.own p b c.id_of.ensures c.id_of-in-loop-e.ensures c.slot_of-own.ensures c.slot_of.ensures c.equal.ensures c.if-equal.true)

pub overflow_cast-x : goal.overflow_cast-x
overflow_cast-x c = let pre = c.requires in let x = c.loop-e.x in let b = asked_low _ _ _ _ _ _ pre x _ c.loop-e.invariant.1 in let l = pre.turn.below in let k = pre.turn.slots.tables.sized.counts.rows in omega (arith, l, k, b)

pub bounds-links-x : goal.bounds-links-x
bounds-links-x c = let pre = c.requires in let x = c.loop-e.x in let b = asked_low _ _ _ _ _ _ pre x _ c.loop-e.invariant.1 in let s = pre.so_far.size in let l = pre.turn.below in let k = pre.turn.slots.tables.sized.counts.rows in omega (arith, s, l, k, b)

pub loop-e-preserved : goal.loop-e-preserved
loop-e-preserved c = let pre = c.requires in let x = c.loop-e.x in let b = asked_low _ _ _ _ _ _ pre x _ c.loop-e.invariant.1 in let d = c.if-x-eq0.false in let p : 0 < x = omega (arith, d) in (omega arith, asked_turn _ _ _ _ _ _ pre x _ c.loop-e.invariant.1 (compared _ _ _ pre.turn x _ _ _ _ _ false pre.own p b c.id_of.ensures c.id_of-in-loop-e.ensures c.slot_of-own.ensures c.slot_of.ensures c.equal.ensures c.if-equal.false))

pub returns : goal.returns
returns c = met_many _ _ _ _ _ _ c.requires
