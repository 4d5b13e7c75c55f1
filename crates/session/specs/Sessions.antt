-- A session and the follower's state that it spells. Four words hold a set of rows; a queue is 32 slots of 64 bytes, the names from slot 0 on and zeros behind them. Beside it the clock
-- record by value, which spells the follower's (R-9).
use Rattle.std.specs.Prelude.{Bool, ◌&&◌, cond, List, [], map, ℕ, eqb, length, get_or, take, replicate}
use Rattle.std.proofs.Math.Option.{some}
use Rattle.definition.specs.declared.Answer.{Answer}
use Rattle.definition.specs.declared.Answer.TheVariants.{BadChart, BadSession}
use Rattle.definition.specs.declared.Status.TheVariants.{Refused}
use Rattle.definition.specs.Rows.{from, same}
use Rattle.definition.specs.Names.{Name}
use Rattle.definition.specs.Chart.{Chart}
use Rattle.definition.specs.Tables.{chart_of, name_at}
use Rattle.follower.specs.Blocks.{Effect}
use Rattle.follower.specs.Clock as pending
use Rattle.follower.specs.Follower as follower
use Rattle.definition.specs.Answers.{mode_no, answer_no}
use Rattle.follower.specs.Follower.{Follower, Timed, post_answer, post, start_or, start, clock_answer, clock, run}
use Rattle.follower.specs.Legal.{is_well_formed}
use Rattle.definition.specs.Compiled.{words, own_numbers, is_compiled}
use Rattle.paths.specs.History.{stored_at}
use Rattle.queue.specs.Queues.{queue_bytes, queue_of}
use Rattle.clock.specs.Records.{clock_bytes, clock_in, is_clock}
use Rattle.state.specs.State.{history_words, rows_at, mode_from, history_in, internal_in, external_in}
use Rattle.session.specs.declared.Session.{Session}
use Rattle.session.specs.declared.Clock.{Clock}
use Rattle.session.specs.declared.Posted.{Posted}
use Rattle.session.specs.declared.Started.{Started}
use Rattle.session.specs.declared.Clocked.{Clocked}
use Rattle.session.specs.declared.Ran.{Ran}

-- a session by its parts
abbrev pub session : List ℕ → List ℕ → List ℕ → List ℕ → ℕ → ℕ → ℕ → Session
session configuration history internal external internal_total external_total mode =
    record { configuration = configuration; history = history; internal = internal; external = external; internal_count = internal_total; external_count = external_total; mode = mode }

-- the session in its numbers and queues
abbrev pub session_at : List ℕ → List ℕ → List ℕ → Session
session_at numbers internal external = session (take 4 numbers) (history_in numbers) internal external (internal_in numbers) (external_in numbers) (get_or numbers 1030 0)

-- ---- from a state to the session that spells it

unfoldable pub session_of : Follower → Session
session_of f =
    record { configuration = words f.configuration; history = history_words f.history; internal = queue_bytes f.internal; external = queue_bytes f.external; internal_count = length f.internal; external_count = length f.external; mode = mode_no f.mode }

-- an ended session that stores nothing: zeros
unfoldable pub ended_session : Session
ended_session = session (replicate 4 0) (replicate 1024 0) (replicate 2048 0) (replicate 2048 0) 0 0 0

-- ---- from a session to the state, for a chart of so many rows

unfoldable pub view : ℕ → Session → Follower
view rows s =
    record { configuration = rows_at s.configuration 0; history = map (stored_at s.history) (from rows 0); internal = queue_of s.internal s.internal_count; external = queue_of s.external s.external_count; mode = mode_from s.mode }

-- ---- "a session is not well formed" (refusal 9): it does not spell a well-formed state of the chart

unfoldable pub same_session : Session → Session → Bool
same_session a b =
    same a.configuration b.configuration && same a.history b.history && same a.internal b.internal && same a.external b.external &&
    eqb a.internal_count b.internal_count && eqb a.external_count b.external_count && eqb a.mode b.mode

unfoldable pub is_session : Chart → Session → Bool
is_session c s = same_session s (session_of (view c.rows s)) && is_well_formed c (view c.rows s)

-- ---- post: "Order: 8, 9, 6, 11, 7" (83)

abbrev pub posted : Session → Answer → Posted
posted s answer = record { session = s; answer = answer }

-- 6, 11 or 7 with the session as it was, or the name last in the external queue
unfoldable pub post_to : Session → Follower → Name → Posted
post_to s f name =
    cond (eqb (answer_no (post_answer f name)) 0) (posted (session_of (post f name)) (post_answer f name)) (posted s (post_answer f name))

unfoldable pub post_checked : Chart → Session → Name → Posted
post_checked c s name = cond (is_session c s) (post_to s (view c.rows s) name) (posted s BadSession)

unfoldable pub post_of : Session → List ℕ → List ℕ → Name → Posted
post_of s chart names name = cond (is_compiled chart names) (post_checked (chart_of (own_numbers chart)) s name) (posted s BadChart)

-- ---- the clock record by value (R-9)

-- the bytes of a record
unfoldable pub record_of : pending.Clock → Clock
record_of k = record { bytes = clock_bytes k }

-- the state with the clock record that the bytes spell
unfoldable pub view_timed : ℕ → Session → Clock → Timed
view_timed rows s k = record { follower = view rows s; clock = clock_in k.bytes }

-- "else 9 in runs and clock calls (posts take no clock record)": session and record are well formed
unfoldable pub is_timed : Chart → Session → Clock → Bool
is_timed c s k = is_session c s && is_clock (mode_from s.mode) k.bytes

-- ---- start: "a refused start (7, 8, 10) hands back an ended session with no stored history and an unchanged trace" (85), "any start, refused too, first sets it to 0 and drops whatever was
-- pending" (R-9)

unfoldable pub start_by : List ℕ → List ℕ → ℕ → follower.Started
start_by chart names room =
    cond (is_compiled chart names) (start (chart_of (own_numbers chart)) (name_at names) room) (start_or (chart_of (own_numbers chart)) (name_at names) (some BadChart))

-- what is handed back; the effects go into the trace
unfoldable pub started_as : follower.Started → Started
started_as r = record { session = session_of r.state.follower; clock = record_of r.state.clock; answer = r.answer; count = length r.effects }

unfoldable pub start_of : List ℕ → List ℕ → ℕ → Started
start_of chart names room = started_as (start_by chart names room)

unfoldable pub start_effects : List ℕ → List ℕ → ℕ → List Effect
start_effects chart names room = (start_by chart names room).effects

-- ---- run: "Order: 8, 9, .., 7, 10" (83). 8 and 9 leave session, clock record and trace as they were.

unfoldable pub refused_run : Session → Clock → Answer → Ran
refused_run s k answer = record { session = s; clock = k; status = Refused answer; rounds = 0; count = 0 }

unfoldable pub ran_as : follower.Ran → Ran
ran_as r = record { session = session_of r.state.follower; clock = record_of r.state.clock; status = r.status; rounds = r.rounds; count = length r.effects }

unfoldable pub run_from : Chart → List ℕ → Session → Clock → ℕ → ℕ → follower.Ran
run_from c names s k rounds room = run c (name_at names) rounds (view_timed c.rows s k) room

unfoldable pub run_of : Session → Clock → List ℕ → List ℕ → ℕ → ℕ → Ran
run_of s k chart names rounds room =
    cond (is_compiled chart names)
    (cond (is_timed (chart_of (own_numbers chart)) s k) (ran_as (run_from (chart_of (own_numbers chart)) names s k rounds room)) (refused_run s k BadSession))
    (refused_run s k BadChart)

unfoldable pub run_effects : Session → Clock → List ℕ → List ℕ → ℕ → ℕ → List Effect
run_effects s k chart names rounds room =
    cond (is_compiled chart names && is_timed (chart_of (own_numbers chart)) s k) (run_from (chart_of (own_numbers chart)) names s k rounds room).effects []

-- ---- the clock call (R-9): 8, 9, 11, 14 in this order leave session and record as they were

abbrev pub clocked_as : Session → Clock → Answer → Clocked
clocked_as s k answer = record { session = s; clock = k; answer = answer }

-- 11 or 14 with both as they were, or the clock moved and whatever is due in the external queue
unfoldable pub clock_to : Session → Clock → Timed → ℕ → Clocked
clock_to s k t ticks =
    cond (eqb (answer_no (clock_answer t ticks)) 0) (clocked_as (session_of (clock t ticks).follower) (record_of (clock t ticks).clock) (clock_answer t ticks))
    (clocked_as s k (clock_answer t ticks))

unfoldable pub clock_checked : Chart → Session → Clock → ℕ → Clocked
clock_checked c s k ticks = cond (is_timed c s k) (clock_to s k (view_timed c.rows s k) ticks) (clocked_as s k BadSession)

unfoldable pub clock_of : Session → Clock → List ℕ → List ℕ → ℕ → Clocked
clock_of s k chart names ticks = cond (is_compiled chart names) (clock_checked (chart_of (own_numbers chart)) s k ticks) (clocked_as s k BadChart)
