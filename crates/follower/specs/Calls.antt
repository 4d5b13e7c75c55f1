-- The follower with its clock record, and whole lists of calls (89, 90).
use Rattle.std.specs.Prelude.{List, [], ◌∷◌, map, ℕ}
use Rattle.definition.specs.Names.{Name}
use Rattle.definition.specs.Chart.{Chart, Names as NameTable}
use Rattle.definition.specs.Answers.{answer_no, status_no}
use Rattle.follower.specs.Blocks.{trace_no}
use Rattle.follower.specs.Clock.{new_clock}
use Rattle.follower.specs.Follower.{ended_follower, Timed, Started, start, post_answer, post, clock_answer, clock, Ran, run}

-- each call with its arguments and the trace room left
pub data Call : Type 0 where
  starts : ℕ → Call
  posts : Name → Call
  clocks : ℕ → Call
  runs : ℕ → ℕ → Call

-- what a call answers: the number of its answer or status, the rounds done, its trace entries, the state after it
pub record Outcome : Type 0 where
  pub number : ℕ
  pub rounds : ℕ
  pub trace : List ℕ
  pub after : Timed

unfoldable pub started_outcome : Started → Outcome
started_outcome r = record { number = answer_no r.answer; rounds = 0; trace = map trace_no r.effects; after = r.state }

unfoldable pub ran_outcome : Ran → Outcome
ran_outcome r = record { number = status_no r.status; rounds = r.rounds; trace = map trace_no r.effects; after = r.state }

-- "posts take no clock record" (R-9)
unfoldable pub follow : Chart → NameTable → Timed → Call → Outcome
follow c names s (starts room) = started_outcome (start c names room)
follow c names s (posts name) =
    record { number = answer_no (post_answer s.follower name); rounds = 0; trace = []; after = record { follower = post s.follower name; clock = s.clock } }
follow c names s (clocks ticks) = record { number = answer_no (clock_answer s ticks); rounds = 0; trace = []; after = clock s ticks }
follow c names s (runs k room) = ran_outcome (run c names k s room)

unfoldable pub follow_all : Chart → NameTable → Timed → List Call → List Outcome
follow_all c names s [] = []
follow_all c names s (x ∷ xs) = follow c names s x ∷ follow_all c names (follow c names s x).after xs

-- before the first start
unfoldable pub at_rest : Chart → Timed
at_rest c = record { follower = ended_follower c; clock = new_clock }
