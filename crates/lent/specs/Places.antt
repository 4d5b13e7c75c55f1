-- A session lent in three places: 1,031 numbers and two queues of 2,048 bytes; its clock record in a fourth, of 4,368 bytes (R-9).
use Rattle.std.specs.Prelude.{◌≡◌, Bool, ◌&&◌, cond, List, [], ℕ, ◌-◌, eqb, length, get_or, take, drop}
use Rattle.definition.specs.declared.Answer.{Answer}
use Rattle.definition.specs.declared.Answer.TheVariants.{BadSession}
use Rattle.definition.specs.Names.{Name}
use Rattle.definition.specs.Tables.{chart_of}
use Rattle.follower.specs.Blocks.{Effect}
use Rattle.definition.specs.Compiled.{is_compiled}
use Rattle.state.specs.State.{trace_with}
use Rattle.session.specs.declared.Session.{Session}
use Rattle.session.specs.declared.Clock.{Clock}
use Rattle.session.specs.declared.Started.{Started}
use Rattle.session.specs.declared.Ran.{Ran}
use Rattle.session.specs.Sessions.{session, is_session, is_timed, start_of, start_effects, post_of, run_of, run_effects}
use Rattle.lent.specs.declared.Checks.{Checks}
use Rattle.lent.specs.declared.StartedIn.{StartedIn}
use Rattle.lent.specs.declared.RanIn.{RanIn}
use Rattle.lent.specs.declared.Stepped.{Stepped}

-- the first four numbers are the configuration; the last three the names that wait in the internal and in the external queue, and the mode; what lies between is the stored history.
-- So no cell is left out, whatever the lengths are, and places of other lengths are no session.
unfoldable pub session_in : List ℕ → List ℕ → List ℕ → Session
session_in numbers internal external =
    session (take 4 numbers) (take (length numbers - 7) (drop 4 numbers)) internal external (get_or numbers (length numbers - 3) 0) (get_or numbers (length numbers - 2) 0) (get_or numbers (length numbers - 1) 0)

-- the clock record in its place
abbrev pub record_in : List ℕ → Clock
record_in bytes = record { bytes = bytes }

-- the lengths of the three places
unfoldable pub lengths_fit : ℕ → ℕ → ℕ → Bool
lengths_fit numbers internal external = eqb numbers 1031 && eqb internal 2048 && eqb external 2048

-- and of all four
unfoldable pub places_fit : ℕ → ℕ → ℕ → ℕ → Bool
places_fit numbers internal external clock = lengths_fit numbers internal external && eqb clock 4368

-- ---- what a call hands back, with the session and the clock record that it leaves in the places

abbrev pub started_in : Session → Clock → StartedIn → Started
started_in s k r = record { session = s; clock = k; answer = r.answer; count = r.count }

abbrev pub ran_in : Session → Clock → RanIn → Ran
ran_in s k r = record { session = s; clock = k; status = r.status; rounds = r.rounds; count = r.count }

abbrev pub stepped_in : Session → Clock → Stepped → Ran
stepped_in s k r = record { session = s; clock = k; status = r.status; rounds = r.rounds; count = r.count }

-- ---- start: whatever session and record were, in places that fit; others stay as they are, with answer 9

unfoldable pub start_in : Bool → Session → Clock → List ℕ → List ℕ → ℕ → Started
start_in fits s k chart names room = cond fits (start_of chart names room) (record { session = s; clock = k; answer = BadSession; count = 0 })

unfoldable pub start_in_effects : Bool → List ℕ → List ℕ → ℕ → List Effect
start_in_effects fits chart names room = cond fits (start_effects chart names room) []

-- ---- a post and then a run

pub record Steps (s : Session) (k : Clock) (chart names : List ℕ) (name : Name) (rounds : ℕ) (old : List ℕ) (answer : Answer) (r : Ran) (trace : List ℕ) : Type 0 where
  pub answered : answer ≡ (post_of s chart names name).answer
  pub ran : r ≡ run_of (post_of s chart names name).session k chart names rounds (length old)
  pub written : trace ≡ trace_with old (run_effects (post_of s chart names name).session k chart names rounds (length old))

-- ---- the checks behind 8 and 9, made once for a call or for a list of calls

unfoldable pub checks_of : List ℕ → List ℕ → Session → Clock → Checks
checks_of chart names s k =
    record { chart = is_compiled chart names; session = is_compiled chart names && is_session (chart_of chart) s; clock = is_compiled chart names && is_timed (chart_of chart) s k }

-- those that a post asks for, which takes no clock record
pub record Checked (chart names : List ℕ) (s : Session) (checks : Checks) : Type 0 where
  pub of_chart : checks.chart ≡ is_compiled chart names
  pub of_session : checks.session ≡ (is_compiled chart names && is_session (chart_of chart) s)
