use mathlib.Core.Path.{ap, ◌∙◌}
use Rattle.rules.specs.Transitions.{condition_none, condition_asked}
use Rattle.tables.specs.Parts.{condition_of}
use Rattle.rules.proofs.transitions.condition_fits.Goals as goal

pub may_be_asked-requires : goal.may_be_asked-requires
may_be_asked-requires c = c.condition_of.ensures.row _ (ap condition_of c.in-Some.is)

pub returns-in-None : goal.returns-in-None
returns-in-None c = condition_none _ _ _ c.condition_of.ensures c.in-None.is

pub returns-in-Some : goal.returns-in-Some
returns-in-Some c = c.may_be_asked.ensures ∙ condition_asked _ _ _ c.condition_of.ensures _ c.in-Some.is
