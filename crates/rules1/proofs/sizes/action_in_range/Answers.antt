use Rattle.rules1.specs.Arguments.{cells_in_range, send_in_range}
use Rattle.rules1.proofs.sizes.action_in_range.Goals as goal

pub returns-then-kind-eq-SEND : goal.returns-then-kind-eq-SEND
returns-then-kind-eq-SEND c = send_in_range _ _ _ _ _ _ _ _ c.action_cell-kind.ensures c.action_cell-argument.ensures c.action_cell-delay.ensures c.action_cell-id.ensures c.if-kind-eq-SEND.true c.name_count-n.ensures c.is_optional_below.ensures

pub returns : goal.returns
returns c = cells_in_range _ _ _ _ _ _ _ c.action_cell-kind.ensures c.action_cell-argument.ensures c.action_cell-delay.ensures c.action_cell-id.ensures c.if-kind-eq-SEND.false c.argument_fits.ensures
