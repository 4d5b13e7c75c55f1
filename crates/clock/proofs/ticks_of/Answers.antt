use mathlib.Core.Path.{sym, ◌∙◌}
use Rattle.clock.specs.Left.{ticks_read}
use Rattle.clock.proofs.ticks_of.Goals as goal

pub returns : goal.returns
returns c = c.get_number.ensures.is ∙ sym (ticks_read _)
