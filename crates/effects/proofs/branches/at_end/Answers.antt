use Rattle.effects.specs.Branches.{end_live, end_waiting, end_inner, end_past, end_deep}
use Rattle.effects.proofs.branches.at_end.Goals as goal

pub returns-in-Live : goal.returns-in-Live
returns-in-Live c = end_live _ c.in-Live.is

pub returns-then-n-eq0 : goal.returns-then-n-eq0
returns-then-n-eq0 c = end_waiting _ _ c.in-Waiting.is c.if-n-eq0.true

pub returns-else-n-eq0 : goal.returns-else-n-eq0
returns-else-n-eq0 c = end_inner _ _ c.in-Waiting.is c.if-n-eq0.false

pub returns-then-n-eq0-2 : goal.returns-then-n-eq0-2
returns-then-n-eq0-2 c = end_past _ _ c.in-Past.is c.if-n-eq0-2.true

pub returns-else-n-eq0-2 : goal.returns-else-n-eq0-2
returns-else-n-eq0-2 c = end_deep _ _ c.in-Past.is c.if-n-eq0-2.false
