-- The calls with a journal (R-10), over those without one; whole lists of them, steps back included.
use Rattle.std.specs.Prelude.{Bool, false, not, ◌&&◌, ◌||◌, cond, List, [], ◌∷◌, ◌++◌, map, ℕ, eqb, leb, length, take}
use Rattle.definition.specs.declared.Answer.{Answer}
use Rattle.definition.specs.declared.Answer.TheVariants.{Done, JournalFull}
use Rattle.definition.specs.Chart.{Chart, Names as NameTable}
use Rattle.definition.specs.Answers.{answer_no}
use Rattle.follower.specs.Blocks.{trace_no}
use Rattle.follower.specs.Follower.{Timed, is_ended}
use Rattle.follower.specs.Calls.{Call, starts, posts, clocks, runs, Outcome, follow, at_rest}
use Rattle.recorded.specs.Journal.{Entered, entered_post, entered_clock, entered_run, most_entries, Replay, refused, reached, replay}

-- "the journal passes on like the session" (10.14)
pub record Recorded : Type 0 where
  pub state : Timed
  pub journal : List Entered

-- a call that could be made without a journal, or a step back with so much trace room left
pub data RecordedCall : Type 0 where
  calls : Call → RecordedCall
  steps_back : ℕ → RecordedCall

-- what a call answers: the number of its answer or status, the rounds done, its trace entries, the state and the journal after it
pub record RecordedOutcome : Type 0 where
  pub number : ℕ
  pub rounds : ℕ
  pub trace : List ℕ
  pub after : Recorded

-- ---- what is entered of a call that is answered by the number n with so many rounds; ended: whether its session had ended before it

-- "accepted posts, clock calls and runs (with the rounds done)" (10.2), "Runs of an ended session are not entered or given 15." (10.16), "A run stopped by refusal 7 or 10
-- is entered with its completed rounds." (10.17)
unfoldable pub entries : Bool → Call → ℕ → ℕ → List Entered
entries ended (starts room) n rounds = []
entries ended (posts name) n rounds = cond (eqb n 0) (entered_post name ∷ []) []
entries ended (clocks ticks) n rounds = cond (eqb n 0) (entered_clock ticks ∷ []) []
entries ended (runs k room) n rounds = cond (ended || eqb n 8 || eqb n 9) [] (entered_run rounds ∷ [])

-- "any start, refused too, empties it first" (10.3)
unfoldable pub journal_after : List Entered → Bool → Call → ℕ → ℕ → List Entered
journal_after js ended (starts room) n rounds = []
journal_after js ended (posts name) n rounds = js ++ entries ended (posts name) n rounds
journal_after js ended (clocks ticks) n rounds = js ++ entries ended (clocks ticks) n rounds
journal_after js ended (runs k room) n rounds = js ++ entries ended (runs k room) n rounds

-- "A full journal refuses the next such call with new refusal 15" (10.13); "the order is now 8, 9, 6, 11, 14, 15, 7, 10" (10.15): it takes the place of 0 and 7 in a post or clock call, and of
-- whatever a run would have done
unfoldable pub is_such : Bool → Call → ℕ → Bool
is_such ended (starts room) n = false
is_such ended (posts name) n = eqb n 0 || eqb n 7
is_such ended (clocks ticks) n = eqb n 0
is_such ended (runs k room) n = not (ended || eqb n 8 || eqb n 9)

unfoldable pub is_full : List Entered → Bool
is_full journal = leb most_entries (length journal)

-- ---- the calls

-- "and leaves all" (10.13)
unfoldable pub leaving : Recorded → Answer → RecordedOutcome
leaving s a = record { number = answer_no a; rounds = 0; trace = []; after = s }

-- what the call gives without a journal, and the journal after it
unfoldable pub recorded_by : Recorded → Bool → Call → Outcome → RecordedOutcome
recorded_by s ended x o =
    cond (is_full s.journal && is_such ended x o.number) (leaving s JournalFull)
    (record { number = o.number; rounds = o.rounds; trace = o.trace; after = record { state = o.after; journal = journal_after s.journal ended x o.number o.rounds } })

-- "Stepping back one is replay to its length less one (at 0, nothing changes), and the last entry is dropped" (10.11)
unfoldable pub back_to : Recorded → List Entered → Replay → RecordedOutcome
back_to s left (refused a) = leaving s a
back_to s left (reached at) = record { number = 0; rounds = 0; trace = map trace_no at.effects; after = record { state = at.state; journal = left } }

unfoldable pub back : Chart → NameTable → Recorded → List Entered → ℕ → RecordedOutcome
back c names s [] room = leaving s Done
back c names s (e ∷ es) room = back_to s (take (length es) (e ∷ es)) (replay c names (e ∷ es) (length es) room)

unfoldable pub follow_recorded : Chart → NameTable → Recorded → RecordedCall → RecordedOutcome
follow_recorded c names s (calls x) = recorded_by s (is_ended s.state.follower.mode) x (follow c names s.state x)
follow_recorded c names s (steps_back room) = back c names s s.journal room

unfoldable pub follow_all_recorded : Chart → NameTable → Recorded → List RecordedCall → List RecordedOutcome
follow_all_recorded c names s [] = []
follow_all_recorded c names s (x ∷ xs) = follow_recorded c names s x ∷ follow_all_recorded c names (follow_recorded c names s x).after xs

-- before the first start
unfoldable pub recorded_at_rest : Chart → Recorded
recorded_at_rest c = record { state = at_rest c; journal = [] }
