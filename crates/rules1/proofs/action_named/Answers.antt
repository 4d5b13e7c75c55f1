use mathlib.Core.Path.{refl, ◌∙◌}
use Rattle.definition.specs.declared.Action.TheVariants.{Host, If, ElseIf, Else, End}
use Rattle.rules1.specs.Raises.{raise_low, send_low, cancel_low, judged, raise_named, send_named, cancel_named, nameless}
use Rattle.rules1.proofs.action_named.Goals as goal

pub is_named-requires : goal.is_named-requires
is_named-requires c = (c.requires.0.tables, c.requires.1, raise_low _ _ _ c.in-Raise.is c.action_at.ensures.1)

pub is_named-requires-in-Send : goal.is_named-requires-in-Send
is_named-requires-in-Send c = (c.requires.0.tables, c.requires.1, (send_low _ _ _ _ _ c.in-Send.is c.action_at.ensures.1).0)

pub is_named_or_none-requires : goal.is_named_or_none-requires
is_named_or_none-requires c = (c.requires.0.tables, c.requires.1, (send_low _ _ _ _ _ c.in-Send.is c.action_at.ensures.1).1)

pub is_named-requires-in-Cancel : goal.is_named-requires-in-Cancel
is_named-requires-in-Cancel c = (c.requires.0.tables, c.requires.1, cancel_low _ _ _ c.in-Cancel.is c.action_at.ensures.1)

pub returns-in-Raise : goal.returns-in-Raise
returns-in-Raise c = judged _ _ _ _ _ _ c.action_at.ensures.0 c.in-Raise.is (c.is_named.ensures ∙ raise_named _ _)

pub returns-in-Host : goal.returns-in-Host
returns-in-Host c = judged _ _ _ _ (Host _) _ c.action_at.ensures.0 c.in-Host.is (nameless _ (Host _) refl)

pub returns-in-If : goal.returns-in-If
returns-in-If c = judged _ _ _ _ (If _) _ c.action_at.ensures.0 c.in-If.is (nameless _ (If _) refl)

pub returns-in-ElseIf : goal.returns-in-ElseIf
returns-in-ElseIf c = judged _ _ _ _ (ElseIf _) _ c.action_at.ensures.0 c.in-ElseIf.is (nameless _ (ElseIf _) refl)

pub returns-in-Else : goal.returns-in-Else
returns-in-Else c = judged _ _ _ _ Else _ c.action_at.ensures.0 c.in-Else.is (nameless _ Else refl)

pub returns-in-End : goal.returns-in-End
returns-in-End c = judged _ _ _ _ End _ c.action_at.ensures.0 c.in-End.is (nameless _ End refl)

pub returns-in-Send : goal.returns-in-Send
returns-in-Send c = judged _ _ _ _ _ _ c.action_at.ensures.0 c.in-Send.is (send_named _ _ _ _ _ _ c.is_named-in-Send.ensures c.is_named_or_none.ensures)

pub returns-in-Cancel : goal.returns-in-Cancel
returns-in-Cancel c = judged _ _ _ _ _ _ c.action_at.ensures.0 c.in-Cancel.is (c.is_named-in-Cancel.ensures ∙ cancel_named _ _)
