use Rattle.effects.specs.Kinds.{if_low, elseif_low}
use Rattle.definition.specs.declared.Reach.TheVariants.{Live}
use Rattle.effects.specs.Branches.{after_raise, after_host, after_send, after_cancel, after_if, after_elseif, after_else, after_end}
use mathlib.Core.Path.{refl}
use native.Mathlib.Omega.{arith}
use Rattle.effects.proofs.branches.reach_after.Goals as goal

pub overflow_cast-i : goal.overflow_cast-i
overflow_cast-i c = let l = if_low _ _ c.in-If.is c.requires.0 in omega arith

pub overflow_cast-i-in-ElseIf : goal.overflow_cast-i-in-ElseIf
overflow_cast-i-in-ElseIf c = let l = elseif_low _ _ c.in-ElseIf.is c.requires.0 in omega arith

pub returns-in-Raise : goal.returns-in-Raise
returns-in-Raise c = after_raise _ _ _ Live _ c.in-Raise.is

pub returns-in-Host : goal.returns-in-Host
returns-in-Host c = after_host _ _ _ Live _ c.in-Host.is

pub returns-in-If : goal.returns-in-If
returns-in-If c = after_if _ _ _ _ _ _ _ c.in-If.is refl c.has.ensures c.at_if.ensures

pub returns-in-ElseIf : goal.returns-in-ElseIf
returns-in-ElseIf c = after_elseif _ _ _ _ _ _ _ c.in-ElseIf.is refl c.has-in-ElseIf.ensures c.at_else.ensures

pub returns-in-Else : goal.returns-in-Else
returns-in-Else c = after_else _ _ _ _ c.in-Else.is c.at_else-in-Else.ensures

pub returns-in-End : goal.returns-in-End
returns-in-End c = after_end _ _ _ _ c.in-End.is c.at_end.ensures

pub returns-in-Send : goal.returns-in-Send
returns-in-Send c = after_send _ _ _ Live _ _ _ c.in-Send.is

pub returns-in-Cancel : goal.returns-in-Cancel
returns-in-Cancel c = after_cancel _ _ _ Live _ c.in-Cancel.is
