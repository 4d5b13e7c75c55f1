use Rattle.effects.specs.Branches.{depth_of}
use Rattle.effects.specs.Branches.{if_live, if_waiting, if_past}
use mathlib.Core.Path.{ap}
use mathlib.Core.Bool.{true, false}
use native.Mathlib.Omega.{arith}
use Rattle.effects.proofs.branches.at_if.Goals as goal

pub overflow_add-result : goal.overflow_add-result
overflow_add-result c = let l = c.requires in let e = ap depth_of c.in-Waiting.is in omega arith

pub overflow_add-result-in-Past : goal.overflow_add-result-in-Past
overflow_add-result-in-Past c = let l = c.requires in let e = ap depth_of c.in-Past.is in omega arith

pub returns-then-holds : goal.returns-then-holds
returns-then-holds c = if_live _ _ true c.in-Live.is c.if-holds.true

pub returns-else-holds : goal.returns-else-holds
returns-else-holds c = if_live _ _ false c.in-Live.is c.if-holds.false

pub returns-in-Waiting : goal.returns-in-Waiting
returns-in-Waiting c = if_waiting _ _ _ c.in-Waiting.is

pub returns-in-Past : goal.returns-in-Past
returns-in-Past c = if_past _ _ _ c.in-Past.is
