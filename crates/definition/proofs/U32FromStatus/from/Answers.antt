use mathlib.Core.Path.{sym, ap, ◌∙◌}
use Rattle.definition.specs.Answers.{status_no}
use Rattle.definition.proofs.U32FromStatus.from.Goals as goal

pub returns-in-More : goal.returns-in-More
unfolding status_no
returns-in-More c = sym (ap status_no c.in-More.is)

pub returns-in-Idle : goal.returns-in-Idle
unfolding status_no
returns-in-Idle c = sym (ap status_no c.in-Idle.is)

pub returns-in-Ended : goal.returns-in-Ended
unfolding status_no
returns-in-Ended c = sym (ap status_no c.in-Ended.is)

pub returns-in-Refused : goal.returns-in-Refused
unfolding status_no
returns-in-Refused c = c.from.ensures ∙ sym (ap status_no c.in-Refused.is)
