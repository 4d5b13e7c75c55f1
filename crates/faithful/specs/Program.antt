-- The program's side: what the contracts of start, post, run and the clock call say over a lent compiled chart, call after call, session and clock record handed on.
use Rattle.std.specs.Prelude.{List, [], ◌∷◌, ℕ, suc, ◌+◌, ◌-◌, take, drop, replicate}
use Rattle.definition.specs.Answers.{answer_no, status_no}
use Rattle.follower.specs.Blocks.{Effect}
use Rattle.follower.specs.Follower.{Timed}
use Rattle.follower.specs.Calls.{Call, starts, posts, clocks, runs}
use Rattle.state.specs.State.{trace_with}
use Rattle.session.specs.declared.Session.{Session}
use Rattle.session.specs.declared.Clock.{Clock}
use Rattle.session.specs.declared.Started.{Started}
use Rattle.session.specs.declared.Posted.{Posted}
use Rattle.session.specs.declared.Clocked.{Clocked}
use Rattle.session.specs.declared.Ran.{Ran}
use Rattle.session.specs.Sessions.{session_of, ended_session, record_of, start_of, start_effects, post_of, run_of, run_effects, clock_of}

-- what is handed from call to call: a session and its clock record
pub record Both : Type 0 where
  pub session : Session
  pub clock : Clock

-- those that spell a state
unfoldable pub both_of : Timed → Both
both_of t = record { session = session_of t.follower; clock = record_of t.clock }

-- before any start
unfoldable pub zeros : Both
zeros = record { session = ended_session; clock = record { bytes = replicate 4368 0 } }

-- what one call hands back and leaves: the number of its answer or status, the rounds done, the reported count of entries, what a lent trace is afterwards, session and record
pub record Step : Type 0 where
  pub number : ℕ
  pub rounds : ℕ
  pub count : ℕ
  pub left : List ℕ → List ℕ
  pub after : Both

abbrev pub step_started : Started → List Effect → Step
step_started r es =
    record { number = answer_no r.answer; rounds = 0; count = r.count; left = λ old. trace_with old es; after = record { session = r.session; clock = r.clock } }

-- "posts take no clock record" (R-9)
abbrev pub step_posted : Posted → Clock → Step
step_posted r k = record { number = answer_no r.answer; rounds = 0; count = 0; left = λ old. old; after = record { session = r.session; clock = k } }

abbrev pub step_clocked : Clocked → Step
step_clocked r = record { number = answer_no r.answer; rounds = 0; count = 0; left = λ old. old; after = record { session = r.session; clock = r.clock } }

abbrev pub step_ran : Ran → List Effect → Step
step_ran r es =
    record { number = status_no r.status; rounds = r.rounds; count = r.count; left = λ old. trace_with old es; after = record { session = r.session; clock = r.clock } }

unfoldable pub start_step : List ℕ → List ℕ → ℕ → Step
start_step chart names room = step_started (start_of chart names room) (start_effects chart names room)

unfoldable pub post_step : List ℕ → List ℕ → Both → List ℕ → Step
post_step chart names b name = step_posted (post_of b.session chart names name) b.clock

unfoldable pub clock_step : List ℕ → List ℕ → Both → ℕ → Step
clock_step chart names b ticks = step_clocked (clock_of b.session b.clock chart names ticks)

unfoldable pub run_step : List ℕ → List ℕ → Both → ℕ → ℕ → Step
run_step chart names b rounds room = step_ran (run_of b.session b.clock chart names rounds room) (run_effects b.session b.clock chart names rounds room)

unfoldable pub call : List ℕ → List ℕ → Both → Call → Step
call chart names b (starts room) = start_step chart names room
call chart names b (posts name) = post_step chart names b name
call chart names b (clocks ticks) = clock_step chart names b ticks
call chart names b (runs rounds room) = run_step chart names b rounds room

unfoldable pub call_all : List ℕ → List ℕ → Both → List Call → List Step
call_all chart names b [] = []
call_all chart names b (x ∷ xs) = call chart names b x ∷ call_all chart names (call chart names b x).after xs

-- ---- inside a run

-- a run and then one more, as one
unfoldable pub joined_runs : Ran → Ran → Ran
joined_runs r q = record { session = q.session; clock = q.clock; status = q.status; rounds = r.rounds + q.rounds; count = r.count + q.count }

-- a run that goes on: the rounds that are left of so many, from session and record that were handed back, in the room that is left
unfoldable pub going_on : List ℕ → List ℕ → ℕ → ℕ → Ran → Ran
going_on chart names rounds room r = run_of r.session r.clock chart names (rounds - r.rounds) (room - r.count)

-- the entries of its round k, counted from 0: those between the counts of a run of k rounds and of one of k + 1
unfoldable pub round_effects : List ℕ → List ℕ → Session → Clock → ℕ → ℕ → ℕ → List Effect
round_effects chart names s y rounds room k =
    drop (run_of s y chart names k room).count (take (run_of s y chart names (suc k) room).count (run_effects s y chart names rounds room))
