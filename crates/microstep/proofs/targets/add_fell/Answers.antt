use mathlib.Core.Path.{◌∙◌}
use Rattle.definition.specs.Chart.{is_history}
use Rattle.laws.specs.Loops.{told}
use Rattle.microstep.specs.Targets.{fell_in, fell_stored, fell_plain}
use Rattle.microstep.specs.Stored.{stored_nothing, stored_something}
use Rattle.microstep.proofs.targets.add_fell.Goals as goal

pub returns-then-not-is_history : goal.returns-then-not-is_history
returns-then-not-is_history c = fell_plain _ _ _ _ (told is_history _ _ _ _ c.kind_of.ensures c.is_history.ensures c.if-not-is_history.true)

pub returns-in-Nothing : goal.returns-in-Nothing
returns-in-Nothing c = c.with.ensures ∙ fell_in _ _ _ _ (told is_history _ _ _ _ c.kind_of.ensures c.is_history.ensures c.if-not-is_history.false) (stored_nothing _ _ c.stored_after.ensures c.in-Nothing.is)

pub returns-in-Stored : goal.returns-in-Stored
returns-in-Stored c = fell_stored _ _ _ _ (told is_history _ _ _ _ c.kind_of.ensures c.is_history.ensures c.if-not-is_history.false) (stored_something _ _ c.stored_after.ensures _ c.in-Stored.is)
