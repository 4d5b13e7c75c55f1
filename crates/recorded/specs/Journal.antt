-- The journal (R-10): what is entered, and where its entries lead from the accepted start.
use Rattle.std.specs.Prelude.{◌||◌, cond, List, [], ◌∷◌, ◌++◌, ℕ, zero, suc, eqb, ltb, length, take}
use Rattle.std.proofs.Math.Option.{Option, none, some}
use Rattle.definition.specs.declared.Answer.{Answer}
use Rattle.definition.specs.declared.Answer.TheVariants.{BadSession, NoRoom}
use Rattle.definition.specs.Names.{Name}
use Rattle.definition.specs.Chart.{Chart, Names as NameTable}
use Rattle.follower.specs.Blocks.{Effect}
use Rattle.follower.specs.Clock.{Table}
use Rattle.follower.specs.Follower.{Follower, Round, idle, over, did, round, most_queued, Timed, timed, table_in, first_follower, first_table, first_effects, is_ended}
use Rattle.follower.specs.Calls.{posts, clocks, Outcome, follow}

-- "a journal of at most 512 accepted posts, clock calls and runs (with the rounds done)" (10.2)
abbrev pub most_entries : ℕ
most_entries = 512

pub data Entered : Type 0 where
  entered_post : Name → Entered
  entered_clock : ℕ → Entered
  entered_run : ℕ → Entered

-- ---- what the call of one entry does once more

-- the session and its clock record, and what the call did
pub record At : Type 0 where
  pub state : Timed
  pub effects : List Effect

-- with those effects in front
unfoldable pub behind : List Effect → Option At → Option At
behind es none = none
behind es (some a) = some (record { state = a.state; effects = es ++ a.effects })

-- a round that is refused with 7 is not done; none is refused with 10, since "the trace that entry k wrote" (10.4) had room
unfoldable pub unless_full : (Timed → Option At) → ℕ → Follower → List Effect → Table → Option At
unless_full rest ticks next es t = cond (ltb most_queued (length next.internal) || t.full) none (rest (timed next ticks t))

unfoldable pub onwards : (Timed → Option At) → NameTable → Timed → Round → Option At
onwards rest names s idle = none
onwards rest names s over = none
onwards rest names s (did next es) = behind es (unless_full rest s.clock.ticks next es (table_in s.follower.mode names s.clock es))

-- exactly so many rounds, or none where one of them cannot be done
unfoldable pub exactly : Chart → NameTable → ℕ → Timed → Option At
exactly c names zero s = some (record { state = s; effects = [] })
exactly c names (suc k) s = onwards (exactly c names k) names s (round c names s.follower)

-- the state that an accepted post or clock call leaves
unfoldable pub accepted : Outcome → Option At
accepted o = cond (eqb o.number 0) (some (record { state = o.after; effects = [] })) none

-- "a number of rounds from 0 to 4,294,967,295" (71)
abbrev pub most_rounds : ℕ
most_rounds = 4294967295

-- none where no call leaves that entry; "Runs of an ended session are not entered" (10.16)
unfoldable pub again : Chart → NameTable → Timed → Entered → Option At
again c names s (entered_post name) = accepted (follow c names s (posts name))
again c names s (entered_clock ticks) = accepted (follow c names s (clocks ticks))
again c names s (entered_run k) = cond (is_ended s.follower.mode || ltb most_rounds k) none (exactly c names k s)

-- ---- replay

-- "0 is the accepted start" (10.4); none for "a chart whose start gives 7" (10.6)
unfoldable pub started_at : Chart → NameTable → Option At
started_at c names =
    cond (ltb most_queued (length (first_follower c names).internal) || (first_table c names).full) none
    (some (record { state = timed (first_follower c names) 0 (first_table c names); effects = first_effects c }))

-- one entry further
unfoldable pub on_to : Chart → NameTable → Option At → Entered → Option At
on_to c names none e = none
on_to c names (some a) e = again c names a.state e

-- entry by entry
unfoldable pub through : Chart → NameTable → Option At → List Entered → Option At
through c names o [] = o
through c names o (e ∷ es) = through c names (on_to c names o e) es

-- where the entries lead from the accepted start; none for "entries that no started session leaves" (10.6)
unfoldable pub replayed : Chart → NameTable → List Entered → Option At
replayed c names es = through c names (started_at c names) es

-- what replaying answers: 9, 10, or where it came to
pub data Replay : Type 0 where
  refused : Answer → Replay
  reached : At → Replay

-- "Too little trace room is 10" (10.5); "first k entries that no started session leaves, a chart whose start gives 7 (..) are 9" (10.6)
unfoldable pub unless_no_room : ℕ → Option At → Replay
unless_no_room room none = refused BadSession
unless_no_room room (some a) = cond (ltb room (length a.effects)) (refused NoRoom) (reached a)

-- "From the compiled chart and the first k entries" (10.4); "or too large a k, are 9" (10.6); the trace is that of entry k alone
unfoldable pub replay : Chart → NameTable → List Entered → ℕ → ℕ → Replay
replay c names journal k room = cond (ltb (length journal) k) (refused BadSession) (unless_no_room room (replayed c names (take k journal)))
