-- What replay is promised to give (R-10, sentence 10.4): the calls that the entries of a journal stand for, and that replay of the first k gives what call k gave.
use Rattle.std.specs.Prelude.{◌≡◌, true, cond, List, [], ◌∷◌, ◌++◌, map, ℕ, zero, suc, ◌≤◌, eqb, length, take}
use Rattle.std.proofs.Math.Option.{Option, none, some}
use Rattle.definition.specs.Chart.{Chart, Names}
use Rattle.follower.specs.Blocks.{trace_no}
use Rattle.follower.specs.Follower.{is_ended}
use Rattle.follower.specs.Calls.{starts, posts, clocks, runs}
use Rattle.recorded.specs.Journal.{Entered, most_entries, most_rounds, At, unless_no_room, replay}
use Rattle.recorded.specs.Recorded.{Recorded, RecordedCall, calls, steps_back, RecordedOutcome, follow_recorded, recorded_at_rest}

-- ---- the outcomes that the entries stand for, behind that of the accepted start

-- a call that is entered puts its outcome last, a step back drops the last; a call that leaves the journal as it is leaves them too. Before an accepted start there are none.
unfoldable pub kept_by : List RecordedOutcome → RecordedOutcome → List RecordedOutcome
kept_by [] o = []
kept_by (x ∷ xs) o = take (suc (length o.after.journal)) ((x ∷ xs) ++ (o ∷ []))

unfoldable pub kept_after : List RecordedOutcome → RecordedCall → RecordedOutcome → List RecordedOutcome
kept_after os (calls (starts room)) o = cond (eqb o.number 0) (o ∷ []) []
kept_after os (calls (posts name)) o = kept_by os o
kept_after os (calls (clocks ticks)) o = kept_by os o
kept_after os (calls (runs k room)) o = kept_by os o
kept_after os (steps_back room) o = kept_by os o

pub record Ledger : Type 0 where
  pub now : Recorded
  pub kept : List RecordedOutcome

unfoldable pub after_call : Chart → Names → Ledger → RecordedCall → Ledger
after_call c names l x = record { now = (follow_recorded c names l.now x).after; kept = kept_after l.kept x (follow_recorded c names l.now x) }

unfoldable pub after_calls : Chart → Names → Ledger → List RecordedCall → Ledger
after_calls c names l [] = l
after_calls c names l (x ∷ xs) = after_calls c names (after_call c names l x) xs

-- before any call
unfoldable pub empty_ledger : Chart → Ledger
empty_ledger c = record { now = recorded_at_rest c; kept = [] }

-- "a number of rounds from 0 to 4,294,967,295" (71)
abbrev pub Permitted : RecordedCall → Type 0
Permitted (calls (starts room)) = Unit {0}
Permitted (calls (posts name)) = Unit {0}
Permitted (calls (clocks ticks)) = Unit {0}
Permitted (calls (runs k room)) = k ≤ most_rounds
Permitted (steps_back room) = Unit {0}

abbrev pub AllPermitted : List RecordedCall → Type 0
AllPermitted [] = Unit {0}
AllPermitted (x ∷ xs) = Permitted x × AllPermitted xs

-- ---- "replay gives exactly the session and the clock record after entry k and the trace that entry k wrote" (10.4)

unfoldable pub outcome_at : ℕ → List RecordedOutcome → Option RecordedOutcome
outcome_at k [] = none
outcome_at zero (o ∷ os) = some o
outcome_at (suc k) (o ∷ os) = outcome_at k os

module _ (c : Chart) (names : Names) where
  -- replay of the first k entries comes to where the call with this outcome came to; its room alone decides whether it is refused
  pub record ReplaysTo (journal : List Entered) (k : ℕ) (o : RecordedOutcome) : Type 0 where
    pub at : At
    pub replays : (room : ℕ) → replay c names journal k room ≡ unless_no_room room (some at)
    pub state : at.state ≡ o.after.state
    pub trace : map trace_no at.effects ≡ o.trace

  -- a session that was started: one outcome for the start and one for each entry, of which the last left it where it is
  pub record Replays (l : Ledger) : Type 0 where
    pub few : length l.now.journal ≤ most_entries
    pub many : length l.kept ≡ suc (length l.now.journal)
    pub each : (k : ℕ) (o : RecordedOutcome) → outcome_at k l.kept ≡ some o → ReplaysTo l.now.journal k o
    pub last : (o : RecordedOutcome) → outcome_at (length l.now.journal) l.kept ≡ some o → o.after.state ≡ l.now.state

  -- one that was not: it has ended, and nothing is entered
  pub record Fresh (l : Ledger) : Type 0 where
    pub ended : is_ended l.now.state.follower.mode ≡ true
    pub empty : l.now.journal ≡ []
    pub none : l.kept ≡ []

  -- ---- "first k entries that no started session leaves" (10.6)

  -- some calls leave a started session with these entries
  pub record LeftBy (es : List Entered) : Type 0 where
    pub made : List RecordedCall
    pub permitted : AllPermitted made
    pub started : (after_calls c names (empty_ledger c) made).kept ≡ [] → ⊥
    pub leaves : (after_calls c names (empty_ledger c) made).now.journal ≡ es
