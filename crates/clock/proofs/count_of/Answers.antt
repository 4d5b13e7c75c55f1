use mathlib.Core.Path.{sym, ◌∙◌}
use Rattle.clock.specs.Left.{count_read}
use Rattle.clock.proofs.count_of.Goals as goal

pub returns : goal.returns
returns c = c.get_number.ensures.is ∙ sym (count_read _)
