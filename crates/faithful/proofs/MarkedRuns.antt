-- The eight marked runs once more, of the real functions: what the contracts of start, post and run give over the compiled chart A, call after call from a
-- session and a clock record of zeros, what the contract of names::matches gives, and what compile answers.
use Rattle.std.specs.Prelude.{◌≡◌, refl, List, [], ◌∷◌, ◌++◌, ℕ, length, take, drop, replicate}
use Rattle.std.proofs.Common.{take_at}
use Rattle.std.proofs.Math.Path.{ap}
use Rattle.definition.specs.Names.{Name, matches}
use Rattle.definition.specs.Tables.{row_count, chart_of, name_at}
use Rattle.definition.specs.Rules.{compiled_size, verdict, keeps_rules}
use Rattle.definition.specs.Answers.{answer_no}
use Rattle.follower.specs.Follower.{Follower}
use Rattle.follower.specs.Calls.{Call, starts, posts, runs, Outcome, follow, follow_all, at_rest}
use Rattle.definition.specs.Compiled.{compiled}
use Rattle.definition.specs.ChartA.{numbers_a, e1, e2, e4, names_with, names_a}
use Rattle.follower.specs.Marked.{play_a, last_of, last_a, trace_a, sum_a, test, expected}
use Rattle.theory.specs.MarkedRuns.{marked_runs}
use Rattle.state.specs.State.{rows_at}
use Rattle.session.specs.Sessions.{view}
use Rattle.faithful.specs.Program.{zeros, Step, start_step, call, call_all}
use Rattle.faithful.specs.Alike.{Alike, AllAlike}
use Rattle.faithful.proofs.ChartA.{chart_a}

-- every start and run is lent a trace of 1000 zeros
abbrev room : ℕ
room = 1000

unfoldable pub last_step : Step → List Step → Step
last_step a [] = a
last_step a (x ∷ xs) = last_step x xs

-- the last step of a start and the calls behind it
unfoldable pub last_in : List Call → Step
last_in calls = last_step (start_step (compiled numbers_a) names_a room) (call_all (compiled numbers_a) names_a zeros (starts room ∷ calls))

-- the entries that it reports
abbrev pub trace_in : List Call → List ℕ
trace_in calls = take (last_in calls).count ((last_in calls).left (replicate room 0))

-- rounds, status, configuration
abbrev pub sum_in : List Call → List ℕ
sum_in calls = (last_in calls).rounds ∷ (last_in calls).number ∷ rows_at (last_in calls).after.session.configuration 0

-- what compile answers for chart A with another id for row 10, lent places of the stated sizes
abbrev pub compiled_with : Name → ℕ
compiled_with other = answer_no (verdict numbers_a (names_with other) (compiled_size numbers_a) (length (names_with other)))

abbrev pub marked_program : List (List ℕ)
marked_program =
    trace_in [] ∷
    trace_in (posts e4 ∷ runs 1 room ∷ []) ∷
    trace_in (posts e4 ∷ runs 1 room ∷ posts e1 ∷ runs 1 room ∷ []) ∷
    trace_in (posts e4 ∷ runs 1 room ∷ posts e1 ∷ runs 1 room ∷ posts e2 ∷ runs 2 room ∷ []) ∷
    sum_in (posts e4 ∷ posts e1 ∷ posts e2 ∷ runs 10 room ∷ []) ∷
    sum_in (posts e4 ∷ posts e1 ∷ posts e2 ∷ runs 3 room ∷ []) ∷
    (test (matches e1 (e1 ++ (46 ∷ 120 ∷ []))) ∷ test (matches e1 (e1 ++ (49 ∷ []))) ∷ []) ∷
    (compiled_with (replicate 52 97) ∷ compiled_with (replicate 53 97) ∷ []) ∷
    sum_in (runs 0 room ∷ []) ∷ []

-- ---- each step is alike to the follower's outcome

last_alike : (rows : ℕ) (a : Step) (o : Outcome) → Alike rows a o → (xs : List Step) (os : List Outcome) → AllAlike rows xs os → Alike rows (last_step a xs) (last_of o os)
unfolding last_step last_of
last_alike rows a o h [] [] g = h
last_alike rows a o h [] (p ∷ os) g = absurd g
last_alike rows a o h (x ∷ xs) [] g = absurd g
last_alike rows a o h (x ∷ xs) (p ∷ os) g = last_alike rows x p g.0 xs os g.1

module _ (calls : List Call) where
  alike : Alike (row_count numbers_a) (last_in calls) (last_a (starts room ∷ calls))
  unfolding last_in last_step last_of play_a call_all follow_all
  alike =
      let h = chart_a.alike_ended (starts room ∷ calls) in
      last_alike (row_count numbers_a) _ _ h.0
      (call_all (compiled numbers_a) names_a (call (compiled numbers_a) names_a zeros (starts room)).after calls)
      (follow_all (chart_of numbers_a) (name_at names_a) (follow (chart_of numbers_a) (name_at names_a) (at_rest (chart_of numbers_a)) (starts room)).after calls) h.1

  trace_in_lem : trace_in calls ≡ trace_a (starts room ∷ calls)
  trace_in_lem =
      let a = alike in
      let t = trace_a (starts room ∷ calls) in
      rw (a.count, a.trace (replicate room 0)) (take_at t (drop (length t) (replicate room 0)) (length t) refl)

  sum_in_lem : sum_in calls ≡ sum_a (starts room ∷ calls)
  sum_in_lem =
      let a = alike in
      let c : rows_at (last_in calls).after.session.configuration 0 ≡ (last_a (starts room ∷ calls)).after.follower.configuration = unfold view in ap (λ (f : Follower). f.configuration) a.state in
      let n = a.number in
      let r = a.rounds in
      cc

pub marked_runs_of_the_program : marked_program ≡ expected
unfolding keeps_rules
marked_runs_of_the_program =
    rw (
      trace_in_lem [],
      trace_in_lem (posts e4 ∷ runs 1 room ∷ []),
      trace_in_lem (posts e4 ∷ runs 1 room ∷ posts e1 ∷ runs 1 room ∷ []),
      trace_in_lem (posts e4 ∷ runs 1 room ∷ posts e1 ∷ runs 1 room ∷ posts e2 ∷ runs 2 room ∷ []),
      sum_in_lem (posts e4 ∷ posts e1 ∷ posts e2 ∷ runs 10 room ∷ []),
      sum_in_lem (posts e4 ∷ posts e1 ∷ posts e2 ∷ runs 3 room ∷ []),
      sum_in_lem (runs 0 room ∷ []),
    ) marked_runs
