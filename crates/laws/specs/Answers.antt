-- Answers by their numbers.
use Rattle.std.specs.Prelude.{◌≡◌, refl}
use Rattle.std.proofs.Common.{arith}
use Rattle.definition.specs.declared.Answer.{Answer}
use Rattle.definition.specs.declared.Answer.TheVariants.{Done, Size, Names, Tree, Lists, Transitions, NotAName, Full, BadChart, BadSession, NoRoom, SessionEnded, ClockBack, JournalFull, TooMany, HasHistory}
use Rattle.definition.specs.Answers.{answer_no}

-- 0 is the number of one answer alone
pub answer_done : (a : Answer) → answer_no a ≡ 0 → a ≡ Done
unfolding answer_no
answer_done Done h = refl
answer_done Size h = absurd (omega arith)
answer_done Names h = absurd (omega arith)
answer_done Tree h = absurd (omega arith)
answer_done Lists h = absurd (omega arith)
answer_done Transitions h = absurd (omega arith)
answer_done NotAName h = absurd (omega arith)
answer_done Full h = absurd (omega arith)
answer_done BadChart h = absurd (omega arith)
answer_done BadSession h = absurd (omega arith)
answer_done NoRoom h = absurd (omega arith)
answer_done SessionEnded h = absurd (omega arith)
answer_done ClockBack h = absurd (omega arith)
answer_done JournalFull h = absurd (omega arith)
answer_done TooMany h = absurd (omega arith)
answer_done HasHistory h = absurd (omega arith)
