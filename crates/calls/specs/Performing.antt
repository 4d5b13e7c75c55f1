-- What performing a list of calls hands back and leaves.
use Rattle.std.specs.Prelude.{◌≡◌, Bool, true, false, cond, ◌⊎◌, List, [], ◌∷◌, ◌++◌, map, ℕ, length, get_or, take, drop}
use Rattle.definition.specs.Tables.{chart_of, name_at}
use Rattle.follower.specs.Calls.{Call, starts, posts, clocks, runs, Outcome, follow_all, at_rest}
use Rattle.definition.specs.Compiled.{own_numbers, is_compiled}
use Rattle.lent.specs.Places.{session_in, record_in}
use Rattle.faithful.specs.Program.{Both, both_of, zeros, Step, call_all}

-- session and clock record in their places
abbrev pub both_in : List ℕ → List ℕ → List ℕ → List ℕ → Both
both_in numbers internal external clock = record { session = session_in numbers internal external; clock = record_in clock }

-- those that the last step hands back
unfoldable pub last_of : Both → List Step → Both
last_of b [] = b
last_of b (x ∷ xs) = last_of x.after xs

-- three results a step: the number of its answer or status, the rounds done, the count of its entries
abbrev pub report : Step → List ℕ
report x = x.number ∷ x.rounds ∷ x.count ∷ []

-- the cells afterwards: of each call that was performed the last three are its results; no other cell is written
unfoldable pub cells_after : List Step → List ℕ → List ℕ
cells_after [] old = old
cells_after (x ∷ xs) old = take 4 old ++ (report x ++ cells_after xs (drop 7 old))

-- the trace afterwards: each step leaves its own window, whose length is the second cell of its call, and no other entry is written
unfoldable pub trace_after : List ℕ → List Step → List ℕ → List ℕ
trace_after cells [] old = old
trace_after cells (x ∷ xs) old = x.left (take (get_or cells 1 0) old) ++ trace_after (drop 7 cells) xs (drop (get_or cells 1 0) old)

-- one call performed: session and record, and its three results
pub record Told (x : Step) (b : Both) (cells : List ℕ) : Type 0 where
  pub after : b ≡ x.after
  pub result : cells ≡ report x

-- and its window of the trace
pub record Did (x : Step) (window : List ℕ) (b : Both) (result after : List ℕ) : Type 0 where
  pub told : Told x b result
  pub written : after ≡ x.left window

-- all of them: session and record handed back, cells and trace afterwards
pub record Gives (first : Both) (cells₀ trace₀ : List ℕ) (xs : List Step) (b : Both) (cells trace : List ℕ) : Type 0 where
  pub after : b ≡ last_of first xs
  pub told : cells ≡ cells_after xs cells₀
  pub written : trace ≡ trace_after cells₀ xs trace₀

-- ---- the plain follower's side

-- a trace that begins with the outcome's entries
unfoldable pub leaves : Outcome → List ℕ → List ℕ
leaves o old = o.trace ++ drop (length o.trace) old

-- an outcome as a step: the count is that of its entries, session and record spell its state
unfoldable pub step_of : Outcome → Step
step_of o = record { number = o.number; rounds = o.rounds; count = length o.trace; left = leaves o; after = both_of o.after }

unfoldable pub followed : List ℕ → List ℕ → List Call → List Step
followed chart names calls = map step_of (follow_all (chart_of (own_numbers chart)) (name_at names) (at_rest (chart_of (own_numbers chart))) calls)

unfoldable pub starts_first : List Call → Bool
starts_first [] = false
starts_first (starts room ∷ xs) = true
starts_first (posts name ∷ xs) = false
starts_first (clocks ticks ∷ xs) = false
starts_first (runs rounds room ∷ xs) = false

-- ---- the contract

-- of these calls, which the cells spell
pub record Performs (calls : List Call) (first : Both) (chart names cells₀ trace₀ : List ℕ) (last : Both) (count : ℕ) (cells trace : List ℕ) : Type 0 where
  -- whatever is lent: each as the contracts of start, post, run and the clock call say, session and record handed on
  pub performed : count ≡ length calls
  pub by : Gives first cells₀ trace₀ (call_all chart names first calls) last cells trace
  -- demand 3, over a compiled chart and from zeros or a start on: as the plain follower of the chart's own rows
  pub follows : is_compiled chart names ≡ true → (first ≡ zeros) ⊎ (starts_first calls ≡ true) → Gives first cells₀ trace₀ (followed chart names calls) last cells trace

-- no call is performed over places of other lengths
unfoldable pub calls_in : Bool → List ℕ → List ℕ
calls_in fits cells = cond fits cells []
