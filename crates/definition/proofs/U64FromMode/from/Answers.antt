use Rattle.std.proofs.Common.{sym, ap}
use Rattle.definition.specs.Answers.{mode_no}
use Rattle.definition.proofs.U64FromMode.from.Goals as goal

pub returns-in-Ended : goal.returns-in-Ended
unfolding mode_no
returns-in-Ended c = sym (ap mode_no c.in-Ended.is)

pub returns-in-Running : goal.returns-in-Running
unfolding mode_no
returns-in-Running c = sym (ap mode_no c.in-Running.is)

pub returns-in-Closing : goal.returns-in-Closing
unfolding mode_no
returns-in-Closing c = sym (ap mode_no c.in-Closing.is)
