-- Demand 3 for a performed list: over a compiled chart the program's steps are the plain follower's.
use Rattle.std.specs.Prelude.{◌≡◌, refl, true, ◌⊎◌, ℕ, suc, length}
use Rattle.std.proofs.Common.{ap, ⊎_elim}
use mathlib.Core.List.{List, [], ◌∷◌, map}
use Rattle.definition.specs.Tables.{row_count, chart_of}
use Rattle.follower.specs.Calls.{Call, starts, posts, clocks, runs, Outcome, at_rest}
use Rattle.definition.specs.Compiled.{own_numbers, is_compiled}
use Rattle.laws.specs.Bools.{no}
use Rattle.faithful.specs.Program.{Both, zeros, Step, call, call_all}
use Rattle.faithful.specs.Alike.{Alike, alike_both, AllAlike}
use Rattle.faithful.proofs.Demand3.{Demand3, demand_3_checked}
use Rattle.calls.specs.Performing.{Gives, leaves, step_of, followed, starts_first, Performs}

step_is : (rows : ℕ) (x : Step) (o : Outcome) → Alike rows x o → x ≡ step_of o
unfolding step_of leaves
step_is rows x o h =
    let b = alike_both rows x o h in λ i. record { number = h.number i; rounds = h.rounds i; count = h.count i; left = λ old. h.trace old i; after = b i }

steps_are : (rows : ℕ) (xs : List Step) (os : List Outcome) → AllAlike rows xs os → xs ≡ map step_of os
steps_are rows [] [] h = refl
steps_are rows [] (o ∷ os) h = absurd h
steps_are rows (x ∷ xs) [] h = absurd h
steps_are rows (x ∷ xs) (o ∷ os) h = let p = step_is rows x o h.0 in let q = steps_are rows xs os h.1 in cc

module _ (chart names : List ℕ) (compiled : is_compiled chart names ≡ true) where
  demand : Demand3 (own_numbers chart) names chart names
  demand = demand_3_checked chart names compiled

  from_start : (s : Both) (calls : List Call) → starts_first calls ≡ true → call_all chart names s calls ≡ followed chart names calls
  unfolding starts_first followed
  from_start s [] h = absurd (no h)
  from_start s (starts room ∷ calls) h = steps_are (row_count (own_numbers chart)) _ _ (demand.alike s (at_rest (chart_of (own_numbers chart))) room calls)
  from_start s (posts name ∷ calls) h = absurd (no h)
  from_start s (clocks ticks ∷ calls) h = absurd (no h)
  from_start s (runs rounds room ∷ calls) h = absurd (no h)

  from_zeros : (s : Both) (calls : List Call) → s ≡ zeros → call_all chart names s calls ≡ followed chart names calls
  unfolding followed
  from_zeros s calls e = rw e (steps_are (row_count (own_numbers chart)) _ _ (demand.alike_ended calls))

  -- the program's steps are the plain follower's
  pub steps_follow : (s : Both) (calls : List Call) → (s ≡ zeros) ⊎ (starts_first calls ≡ true) → call_all chart names s calls ≡ followed chart names calls
  steps_follow s calls h = ⊎_elim (from_zeros s calls) (from_start s calls) h

pub calls_length : (chart names : List ℕ) (s : Both) (calls : List Call) → length (call_all chart names s calls) ≡ length calls
unfolding call_all
calls_length chart names s [] = refl
calls_length chart names s (x ∷ xs) = ap suc (calls_length chart names (call chart names s x).after xs)

-- the equations give the whole contract
pub performs : (calls : List Call) (first : Both) (chart names cells₀ trace₀ : List ℕ) (last : Both) (count : ℕ) (cells trace : List ℕ) → count ≡ length calls →
    Gives first cells₀ trace₀ (call_all chart names first calls) last cells trace → Performs calls first chart names cells₀ trace₀ last count cells trace
performs calls first chart names cells₀ trace₀ last count cells trace n g = record { performed = n; by = g; follows = λ c h. rw (steps_follow chart names c first calls h) at g }
