use Rattle.rules.specs.Nesting.{at_raise, at_host, at_if_lem, at_fifth, at_elseif, at_else_lem, at_end_lem, at_send, at_cancel}
use Rattle.rules.proofs.branches.step.Goals as goal

pub returns-in-Raise : goal.returns-in-Raise
returns-in-Raise c = at_raise _ _ _ c.in-Raise.is

pub returns-in-Host : goal.returns-in-Host
returns-in-Host c = at_host _ _ _ c.in-Host.is

pub returns-then-ifs-lt-FOUR_OPEN : goal.returns-then-ifs-lt-FOUR_OPEN
returns-then-ifs-lt-FOUR_OPEN c = at_if_lem _ _ _ c.in-If.is c.if-ifs-lt-FOUR_OPEN.true

pub returns-else-ifs-lt-FOUR_OPEN : goal.returns-else-ifs-lt-FOUR_OPEN
returns-else-ifs-lt-FOUR_OPEN c = at_fifth _ _ _ c.in-If.is c.if-ifs-lt-FOUR_OPEN.false

pub returns-then-ifs : goal.returns-then-ifs
returns-then-ifs c = at_elseif _ _ _ _ c.in-ElseIf.is c.if-ifs.true

pub returns-else-ifs : goal.returns-else-ifs
returns-else-ifs c = at_elseif _ _ _ _ c.in-ElseIf.is c.if-ifs.false

pub returns-then-ifs-2 : goal.returns-then-ifs-2
returns-then-ifs-2 c = at_else_lem _ _ _ c.in-Else.is c.if-ifs-2.true

pub returns-else-ifs-2 : goal.returns-else-ifs-2
returns-else-ifs-2 c = at_else_lem _ _ _ c.in-Else.is c.if-ifs-2.false

pub returns-in-End : goal.returns-in-End
returns-in-End c = at_end_lem _ _ c.in-End.is

pub returns-in-Send : goal.returns-in-Send
returns-in-Send c = at_send _ _ _ _ _ c.in-Send.is

pub returns-in-Cancel : goal.returns-in-Cancel
returns-in-Cancel c = at_cancel _ _ _ c.in-Cancel.is
