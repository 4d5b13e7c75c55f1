use mathlib.Core.Path.{sym}
use native.Mathlib.Omega.{arith}
use Rattle.tables.specs.Actions.{action_past, past_send, end_kind}
use Rattle.tables.proofs.blocks.action_from.Goals as goal

pub returns-then-kind-ge-SEND : goal.returns-then-kind-ge-SEND
returns-then-kind-ge-SEND c = record { is = λ y z d. sym (action_past _ _ y z (past_send _ c.if-kind-ge-SEND.true d)) }

pub returns-in-0 : goal.returns-in-0
returns-in-0 c = record { is = λ y z d. rw c.in-0.is }

pub returns-in-1 : goal.returns-in-1
returns-in-1 c = record { is = λ y z d. rw c.in-1.is }

pub returns-in-2 : goal.returns-in-2
returns-in-2 c = record { is = λ y z d. rw c.in-2.is }

pub returns-in-3 : goal.returns-in-3
returns-in-3 c = record { is = λ y z d. rw c.in-3.is }

pub returns-in-4 : goal.returns-in-4
returns-in-4 c = record { is = λ y z d. rw c.in-4.is }

pub returns-in_default : goal.returns-in_default
returns-in_default c = record { is = λ y z d. sym (end_kind c.args.kind c.args.argument y z (omega arith) (omega arith)) }
