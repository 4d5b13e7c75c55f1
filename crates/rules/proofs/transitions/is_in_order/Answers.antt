use Rattle.rules.specs.Transitions.{order_first, order_later}
use Rattle.rules.proofs.transitions.is_in_order.Goals as goal

pub returns-then-k-eq0 : goal.returns-then-k-eq0
returns-then-k-eq0 c = order_first _ _ c.if-k-eq0.true

pub returns : goal.returns
returns c = order_later _ _ _ _ c.if-k-eq0.false c.source_of-before.ensures.is c.source_of-own.ensures.is
