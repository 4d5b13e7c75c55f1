-- A session with its clock record in their places, and what a start and a run over them hand back.
use Rattle.std.specs.Prelude.{◌≡◌, Bool, cond, List, [], ℕ, length}
use Rattle.follower.specs.Blocks.{Effect}
use Rattle.follower.specs.Follower as follower
use Rattle.clock.specs.Records.{clock_bytes, clock_in}
use Rattle.state.specs.State.{Spells, trace_with, state_at}
use Rattle.rounds.specs.declared.Begun.{Begun}
use Rattle.rounds.specs.declared.Progress.{Progress}

-- the state that the places spell, for this chart
abbrev pub timed_at : List ℕ → List ℕ → List ℕ → List ℕ → List ℕ → follower.Timed
timed_at chart numbers internal external clock = record { follower = state_at chart numbers internal external; clock = clock_in clock }

-- the places spell the state s
abbrev pub SpellsTimed : follower.Timed → List ℕ → List ℕ → List ℕ → List ℕ → Type 0
SpellsTimed s numbers internal external clock = Spells s.follower numbers internal external × (clock ≡ clock_bytes s.clock)

-- ---- quiet (R-10): rounds that nobody wants to see are carried out without a trace

-- with more room than all entries of a run take
abbrev pub quiet_room : ℕ
quiet_room = 9223372036854775808

abbrev pub room_in : Bool → ℕ → ℕ
room_in quiet room = cond quiet quiet_room room

-- of these effects, the ones that the trace shows, and how many of n they are
abbrev pub shown_of : Bool → List Effect → List Effect
shown_of quiet es = cond quiet [] es

abbrev pub shown_count : Bool → ℕ → ℕ
shown_count quiet n = cond quiet 0 n

-- where the next entry is written behind count entries: a quiet run stands at the end of its trace of n
abbrev pub place_in : Bool → ℕ → ℕ → ℕ
place_in quiet count n = cond quiet n count

-- ---- what is handed back

-- after the definition's run r, with the trace that was lent as old
pub record RunDone (quiet : Bool) (r : follower.Ran) (p : Progress) (numbers internal external clock old trace : List ℕ) : Type 0 where
  pub status : p.status ≡ r.status
  pub rounds : p.rounds ≡ r.rounds
  pub count : p.count ≡ length r.effects
  pub state : SpellsTimed r.state numbers internal external clock
  pub written : trace ≡ trace_with old (shown_of quiet r.effects)

-- the same after the definition's start, from a session and a clock record of zeros: the external queue is not lent, since it stays
pub record StartDone (quiet : Bool) (r : follower.Started) (b : Begun) (numbers internal external clock old trace : List ℕ) : Type 0 where
  pub answer : b.answer ≡ r.answer
  pub count : b.count ≡ length r.effects
  pub state : SpellsTimed r.state numbers internal external clock
  pub written : trace ≡ trace_with old (shown_of quiet r.effects)
