use Rattle.spell.specs.Actions.{action_in_lem, raise_ready, raise_laid, host_laid, if_ready, if_laid, else_if_ready, else_if_laid, else_laid, end_laid, send_ready, send_laid, cancel_ready, cancel_laid}
use Rattle.spell.proofs.actions.lay_action.Goals as goal

pub action_at-requires : goal.action_at-requires
action_at-requires c = action_in_lem _ _ _ c.requires

pub lay_raise-requires : goal.lay_raise-requires
lay_raise-requires c = raise_ready _ _ _ c.requires _ c.in-Raise.ensures.1

pub returns-in-Raise : goal.returns-in-Raise
returns-in-Raise c = raise_laid _ _ _ c.requires _ c.in-Raise.ensures.0 c.lay_raise.ensures

pub returns-in-Host : goal.returns-in-Host
returns-in-Host c = host_laid _ _ _ c.requires _ c.in-Host.ensures.0 c.lay_host.ensures

pub lay_if-requires : goal.lay_if-requires
lay_if-requires c = if_ready _ _ _ c.requires _ c.in-If.ensures.1

pub returns-in-If : goal.returns-in-If
returns-in-If c = if_laid _ _ _ c.requires _ c.in-If.ensures.0 c.lay_if.ensures

pub lay_else_if-requires : goal.lay_else_if-requires
lay_else_if-requires c = else_if_ready _ _ _ c.requires _ c.in-ElseIf.ensures.1

pub returns-in-ElseIf : goal.returns-in-ElseIf
returns-in-ElseIf c = else_if_laid _ _ _ c.requires _ c.in-ElseIf.ensures.0 c.lay_else_if.ensures

pub returns-in-Else : goal.returns-in-Else
returns-in-Else c = else_laid _ _ _ c.requires c.in-Else.ensures.0 c.lay_else.ensures

pub returns-in-End : goal.returns-in-End
returns-in-End c = end_laid _ _ _ c.requires c.in-End.ensures.0 c.lay_end.ensures

pub lay_send-requires : goal.lay_send-requires
lay_send-requires c = send_ready _ _ _ c.requires _ _ _ c.in-Send.ensures.1

pub returns-in-Send : goal.returns-in-Send
returns-in-Send c = send_laid _ _ _ c.requires _ _ _ c.in-Send.ensures.0 c.lay_send.ensures

pub lay_cancel-requires : goal.lay_cancel-requires
lay_cancel-requires c = cancel_ready _ _ _ c.requires _ c.in-Cancel.ensures.1

pub returns-in-Cancel : goal.returns-in-Cancel
returns-in-Cancel c = cancel_laid _ _ _ c.requires _ c.in-Cancel.ensures.0 c.lay_cancel.ensures
