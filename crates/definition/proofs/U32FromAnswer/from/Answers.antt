-- Each case has the definition's number.
use mathlib.Core.Path.{sym, ap}
use Rattle.definition.specs.Answers.{answer_no}
use Rattle.definition.proofs.U32FromAnswer.from.Goals as goal

pub returns-in-Done : goal.returns-in-Done
unfolding answer_no
returns-in-Done c = sym (ap answer_no c.in-Done.is)

pub returns-in-Size : goal.returns-in-Size
unfolding answer_no
returns-in-Size c = sym (ap answer_no c.in-Size.is)

pub returns-in-Names : goal.returns-in-Names
unfolding answer_no
returns-in-Names c = sym (ap answer_no c.in-Names.is)

pub returns-in-Tree : goal.returns-in-Tree
unfolding answer_no
returns-in-Tree c = sym (ap answer_no c.in-Tree.is)

pub returns-in-Lists : goal.returns-in-Lists
unfolding answer_no
returns-in-Lists c = sym (ap answer_no c.in-Lists.is)

pub returns-in-Transitions : goal.returns-in-Transitions
unfolding answer_no
returns-in-Transitions c = sym (ap answer_no c.in-Transitions.is)

pub returns-in-NotAName : goal.returns-in-NotAName
unfolding answer_no
returns-in-NotAName c = sym (ap answer_no c.in-NotAName.is)

pub returns-in-Full : goal.returns-in-Full
unfolding answer_no
returns-in-Full c = sym (ap answer_no c.in-Full.is)

pub returns-in-BadChart : goal.returns-in-BadChart
unfolding answer_no
returns-in-BadChart c = sym (ap answer_no c.in-BadChart.is)

pub returns-in-BadSession : goal.returns-in-BadSession
unfolding answer_no
returns-in-BadSession c = sym (ap answer_no c.in-BadSession.is)

pub returns-in-NoRoom : goal.returns-in-NoRoom
unfolding answer_no
returns-in-NoRoom c = sym (ap answer_no c.in-NoRoom.is)

pub returns-in-SessionEnded : goal.returns-in-SessionEnded
unfolding answer_no
returns-in-SessionEnded c = sym (ap answer_no c.in-SessionEnded.is)

pub returns-in-ClockBack : goal.returns-in-ClockBack
unfolding answer_no
returns-in-ClockBack c = sym (ap answer_no c.in-ClockBack.is)

pub returns-in-JournalFull : goal.returns-in-JournalFull
unfolding answer_no
returns-in-JournalFull c = sym (ap answer_no c.in-JournalFull.is)

pub returns-in-TooMany : goal.returns-in-TooMany
unfolding answer_no
returns-in-TooMany c = sym (ap answer_no c.in-TooMany.is)

pub returns-in-HasHistory : goal.returns-in-HasHistory
unfolding answer_no
returns-in-HasHistory c = sym (ap answer_no c.in-HasHistory.is)
