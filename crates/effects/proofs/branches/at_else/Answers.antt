use Rattle.effects.specs.Branches.{else_live, else_first, else_inner, else_past}
use mathlib.Core.Bool.{true, false}
use Rattle.effects.proofs.branches.at_else.Goals as goal

pub returns-in-Live : goal.returns-in-Live
returns-in-Live c = else_live _ _ c.in-Live.is

pub returns-then-holds : goal.returns-then-holds
returns-then-holds c = else_first _ _ _ true c.in-Waiting.is c.if-n-eq0.true c.if-holds.true

pub returns-else-holds : goal.returns-else-holds
returns-else-holds c = else_first _ _ _ false c.in-Waiting.is c.if-n-eq0.true c.if-holds.false

pub returns-else-n-eq0 : goal.returns-else-n-eq0
returns-else-n-eq0 c = else_inner _ _ _ c.in-Waiting.is c.if-n-eq0.false

pub returns-in-Past : goal.returns-in-Past
returns-in-Past c = else_past _ _ _ c.in-Past.is
