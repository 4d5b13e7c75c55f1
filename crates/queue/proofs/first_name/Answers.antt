use mathlib.Core.Path.{ap, ◌∙◌}
use Rattle.definition.specs.Names.{before_zero}
use Rattle.definition.specs.Tables.{name_at}
use Rattle.queue.proofs.first_name.Goals as goal

pub returns : goal.returns
unfolding name_at
returns c = c.name_of.ensures ∙ ap before_zero c.slot.ensures
