use Rattle.tables.specs.Parts.{action_read, send_read}
use Rattle.tables.proofs.blocks.action_at.Goals as goal

pub returns-then-kind-eq-SEND : goal.returns-then-kind-eq-SEND
returns-then-kind-eq-SEND c = send_read _ _ _ _ _ _ c.requires c.action_cell-kind.ensures c.action_cell-argument.ensures c.action_cell-delay.ensures c.action_cell-id.ensures c.if-kind-eq-SEND.true

pub returns : goal.returns
returns c = action_read _ _ _ _ _ c.requires c.action_cell-kind.ensures c.action_cell-argument.ensures c.if-kind-eq-SEND.false c.action_from.ensures
