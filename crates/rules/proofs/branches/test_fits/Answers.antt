use mathlib.Core.Path.{refl}
use native.Mathlib.Omega.{arith}
use Rattle.rules.specs.Branches.{if_row, elseif_row, test_raise, test_host, test_if, test_elseif, test_else, test_end, test_send, test_cancel}
use Rattle.rules.proofs.branches.test_fits.Goals as goal

pub overflow_cast-i : goal.overflow_cast-i
overflow_cast-i c = let r = if_row _ _ _ c.requires.0 c.requires.1 c.in-If.is in let b = r.below in let m = r.tables.sized.counts.rows in omega arith

pub may_be_asked-requires : goal.may_be_asked-requires
may_be_asked-requires c = if_row _ _ _ c.requires.0 c.requires.1 c.in-If.is

pub overflow_cast-i-in-ElseIf : goal.overflow_cast-i-in-ElseIf
overflow_cast-i-in-ElseIf c = let r = elseif_row _ _ _ c.requires.0 c.requires.1 c.in-ElseIf.is in let b = r.below in let m = r.tables.sized.counts.rows in omega arith

pub may_be_asked-requires-in-ElseIf : goal.may_be_asked-requires-in-ElseIf
may_be_asked-requires-in-ElseIf c = elseif_row _ _ _ c.requires.0 c.requires.1 c.in-ElseIf.is

pub returns-in-Raise : goal.returns-in-Raise
returns-in-Raise c = test_raise _ _ _ c.in-Raise.is

pub returns-in-Host : goal.returns-in-Host
returns-in-Host c = test_host _ _ _ c.in-Host.is

pub returns-in-If : goal.returns-in-If
returns-in-If c = test_if _ _ _ _ _ c.in-If.is refl c.may_be_asked.ensures

pub returns-in-ElseIf : goal.returns-in-ElseIf
returns-in-ElseIf c = test_elseif _ _ _ _ _ c.in-ElseIf.is refl c.may_be_asked-in-ElseIf.ensures

pub returns-in-Else : goal.returns-in-Else
returns-in-Else c = test_else _ _ c.in-Else.is

pub returns-in-End : goal.returns-in-End
returns-in-End c = test_end _ _ c.in-End.is

pub returns-in-Send : goal.returns-in-Send
returns-in-Send c = test_send _ _ _ _ _ c.in-Send.is

pub returns-in-Cancel : goal.returns-in-Cancel
returns-in-Cancel c = test_cancel _ _ _ c.in-Cancel.is
