-- An answer other than Done has a number above 0.
use mathlib.Core.Path.{◌≡◌, refl}
use mathlib.Core.Bool.{false}
use Rattle.definition.specs.declared.Answer.TheVariants.{Done, Size, Names, Tree, Lists, Transitions, NotAName, Full, BadChart, BadSession, NoRoom, SessionEnded, ClockBack, JournalFull, TooMany, HasHistory}
use Rattle.definition.specs.Answers.{answer_no}
use Rattle.compiler.specs.Results.{is_done}

pub not_done : (a : Rattle.definition.specs.declared.Answer.Answer) → (a ≡ Done → ⊥) → is_done a ≡ false
unfolding answer_no
not_done Done h = absurd (h refl)
not_done Size h = refl
not_done Names h = refl
not_done Tree h = refl
not_done Lists h = refl
not_done Transitions h = refl
not_done NotAName h = refl
not_done Full h = refl
not_done BadChart h = refl
not_done BadSession h = refl
not_done NoRoom h = refl
not_done SessionEnded h = refl
not_done ClockBack h = refl
not_done JournalFull h = refl
not_done TooMany h = refl
not_done HasHistory h = refl
