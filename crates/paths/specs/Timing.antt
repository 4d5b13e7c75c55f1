-- What the sends and cancels of a round are noted as while it is worked out: two numbers each, in their order (R-9). A send's name and send id, then its delay; a
-- cancel is told by a name that is none.
use Rattle.std.specs.Prelude.{cond, List, [], ◌∷◌, ℕ, ◌+◌, ◌*◌, ◌/◌, ◌%◌, eqb}
use Rattle.definition.specs.Rows.{flat}
use Rattle.definition.specs.Tables.{no_number}
use Rattle.follower.specs.Blocks.{Effect, exited, taken, entered, acted, raised, done, chosen, sent, cancelled}

unfoldable pub timing : Effect → List ℕ
timing (exited i) = []
timing (taken t) = []
timing (entered i) = []
timing (acted n) = []
timing (raised n) = []
timing (done i) = []
timing (chosen i) = []
timing (sent n delay id) = (n * 65536 + id) ∷ delay ∷ []
timing (cancelled n) = (no_number * 65536 + n) ∷ 0 ∷ []

unfoldable pub timers_of : List Effect → List ℕ
timers_of es = flat timing es

-- how many there are
unfoldable pub times : Effect → ℕ
times (exited i) = 0
times (taken t) = 0
times (entered i) = 0
times (acted n) = 0
times (raised n) = 0
times (done i) = 0
times (chosen i) = 0
times (sent n delay id) = 1
times (cancelled n) = 1

unfoldable pub all_times : List Effect → ℕ
all_times [] = 0
all_times (e ∷ es) = times e + all_times es

-- ---- the effect that two numbers note

unfoldable pub timer_of : ℕ → ℕ → Effect
timer_of a b = cond (eqb (a / 65536) no_number) (cancelled (a % 65536)) (sent (a / 65536) b (a % 65536))

unfoldable pub effects_in : List ℕ → List Effect
effects_in [] = []
effects_in (a ∷ []) = []
effects_in (a ∷ b ∷ rest) = timer_of a b ∷ effects_in rest
