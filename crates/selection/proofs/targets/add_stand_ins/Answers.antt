use mathlib.Core.Path.{◌∙◌}
use Rattle.selection.specs.History.{add_self, add_default, add_stored}
use mathlib.Core.Bool.{not}
use mathlib.Core.Path.{ap}
use Rattle.selection.proofs.targets.add_stand_ins.Goals as goal

pub returns-then-not-is_history : goal.returns-then-not-is_history
returns-then-not-is_history c = c.with.ensures ∙ add_self _ _ _ _ _ _ c.kind_of.ensures c.is_history.ensures (ap not c.if-not-is_history.true)

pub with_rows-requires : goal.with_rows-requires
with_rows-requires c = c.list_of.ensures.within

pub returns-in_default : goal.returns-in_default
returns-in_default c = c.with_rows.ensures ∙ add_default _ _ _ _ _ _ _ c.kind_of.ensures c.is_history.ensures (ap not c.if-not-is_history.false) c.in_default.is c.list_of.ensures.is

pub returns : goal.returns
returns c = c.union.ensures ∙ add_stored _ _ _ _ _ _ _ c.kind_of.ensures c.is_history.ensures (ap not c.if-not-is_history.false) c.in-Stored.is
