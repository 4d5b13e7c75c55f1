-- How a state of the plain follower is spelled in words and bytes: a set of rows as four words, a queue as 32 slots of 64 bytes, the mode as its number.
use Rattle.std.specs.Prelude.{◌≡◌, List, [], ◌∷◌, ◌++◌, map, ℕ, length, get_or, take, drop, replicate}
use Rattle.definition.specs.declared.Mode.{Mode}
use Rattle.definition.specs.Rows.{from, flat}
use Rattle.follower.specs.Blocks.{Effect, trace_no}
use Rattle.definition.specs.Chart.{Chart}
use Rattle.definition.specs.Tables.{row_count, chart_of}
use Rattle.follower.specs.Follower.{Follower}
use Rattle.follower.specs.Legal.{WellFormed}
use Rattle.definition.specs.Compiled.{words}
unfoldable pub use Rattle.definition.specs.Answers.{mode_from}
use Rattle.definition.specs.Answers.{mode_no}
use Rattle.rowset.specs.declared.RowSet.{RowSet}
use Rattle.rowset.specs.Member.{rows_of}
use Rattle.chart.specs.Ready.{row_set_at}
use Rattle.paths.specs.History.{stored_at}
use Rattle.queue.specs.Queues.{queue_bytes, queue_of}
use Rattle.state.specs.declared.State.{State}

-- a set for each of 256 rows
unfoldable pub history_words : List (List ℕ) → List ℕ
history_words sets = take 1024 (flat words sets ++ replicate 1024 0)

-- the rows of the set of four words from place w on
unfoldable pub rows_at : List ℕ → ℕ → List ℕ
rows_at words w = rows_of (row_set_at words w)

-- ---- the numbers of a session

-- the configuration's four words, the stored history, how many names wait in the internal and in the external queue, the mode
unfoldable pub numbers_of : List ℕ → List ℕ → ℕ → ℕ → ℕ → List ℕ
numbers_of conf history internal external mode = conf ++ (history ++ (internal ∷ external ∷ mode ∷ []))

abbrev pub configuration_in : List ℕ → RowSet
configuration_in numbers = row_set_at numbers 0

abbrev pub history_in : List ℕ → List ℕ
history_in numbers = take 1024 (drop 4 numbers)

abbrev pub internal_in : List ℕ → ℕ
internal_in numbers = get_or numbers 1028 0

abbrev pub external_in : List ℕ → ℕ
external_in numbers = get_or numbers 1029 0

abbrev pub mode_in : List ℕ → Mode
mode_in numbers = mode_from (get_or numbers 1030 0)

abbrev pub state_in : List ℕ → State
state_in numbers = record { configuration = configuration_in numbers; internal = internal_in numbers; external = external_in numbers; mode = mode_in numbers }

-- ---- a session in its lent places: its numbers and the bytes of two queues

-- the places spell the state f
pub record Spells (f : Follower) (numbers internal external : List ℕ) : Type 0 where
  pub numbers_are : numbers ≡ numbers_of (words f.configuration) (history_words f.history) (length f.internal) (length f.external) (mode_no f.mode)
  pub internal_is : internal ≡ queue_bytes f.internal
  pub external_is : external ≡ queue_bytes f.external

-- and f is a well-formed state of the chart
pub record Holds (c : Chart) (f : Follower) (numbers internal external : List ℕ) : Type 0 where
  pub spells : Spells f numbers internal external
  pub formed : WellFormed c f

-- the state that the places spell, for a chart of so many rows
unfoldable pub state_of : ℕ → List ℕ → List ℕ → List ℕ → Follower
state_of rows numbers internal external = record {
  configuration = rows_of (configuration_in numbers);
  history = map (stored_at (history_in numbers)) (from rows 0);
  internal = queue_of internal (internal_in numbers);
  external = queue_of external (external_in numbers);
  mode = mode_in numbers;
}

-- the state that the places spell, for this chart
abbrev pub state_at : List ℕ → List ℕ → List ℕ → List ℕ → Follower
state_at chart numbers internal external = state_of (row_count chart) numbers internal external

abbrev pub HoldsAt : List ℕ → List ℕ → List ℕ → List ℕ → Type 0
HoldsAt chart numbers internal external = Holds (chart_of chart) (state_at chart numbers internal external) numbers internal external

-- a trace after effects were written from its beginning: "the others keep their numbers"
unfoldable pub trace_with : List ℕ → List Effect → List ℕ
trace_with old es = map trace_no es ++ drop (length es) old
