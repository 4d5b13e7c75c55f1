-- The numbers that answers, statuses and modes are known by.
use Rattle.std.specs.Prelude.{ℕ, zero, suc}
use Rattle.definition.specs.declared.Mode.{Mode}
use Rattle.definition.specs.declared.Mode.TheVariants.{Running, Closing, Ended}
use Rattle.definition.specs.declared.Answer.{Answer}
use Rattle.definition.specs.declared.Answer.TheVariants.{Done, Size, Names, Tree, Lists, Transitions, NotAName, Full, BadChart, BadSession, NoRoom, SessionEnded, ClockBack, JournalFull, TooMany, HasHistory}
use Rattle.definition.specs.declared.Status.{Status}
use Rattle.definition.specs.declared.Status.TheVariants.{More, Idle, Ended as HasEnded, Refused}

-- ---- the numbers of the enums' cases

unfoldable pub mode_no : Mode → ℕ
mode_no Ended = 0
mode_no Running = 1
mode_no Closing = 2

-- the mode of a number
unfoldable pub mode_from : ℕ → Mode
mode_from zero = Ended
mode_from (suc zero) = Running
mode_from (suc (suc n)) = Closing

-- the table of answers (74 to 82); 14 is R-9's, 15 R-10's, 16 and 17 are R-11's; 12 is given by the reader of texts, 13 by the writer
unfoldable pub answer_no : Answer → ℕ
answer_no Done = 0
answer_no Size = 1
answer_no Names = 2
answer_no Tree = 3
answer_no Lists = 4
answer_no Transitions = 5
answer_no NotAName = 6
answer_no Full = 7
answer_no BadChart = 8
answer_no BadSession = 9
answer_no NoRoom = 10
answer_no SessionEnded = 11
answer_no ClockBack = 14
answer_no JournalFull = 15
answer_no TooMany = 16
answer_no HasHistory = 17

-- the statuses that the paper names by a word stand clear of its numbers
unfoldable pub status_no : Status → ℕ
status_no More = 100
status_no Idle = 101
status_no HasEnded = 102
status_no (Refused a) = answer_no a
