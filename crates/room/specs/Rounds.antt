-- How many rounds a run does at most. Each completed round writes an entry or takes a waiting name, and a name that joins the internal queue
-- is an entry of its own, of a kind that no transition has: so the rounds are no more than the entries and the names that waited at first.
use Rattle.std.proofs.Math.Path.{◌≡◌, refl, ap, subst}
use Rattle.std.proofs.Common.{sym}
use Rattle.std.specs.Prelude.{false}
use mathlib.Core.List.{List, [], ◌∷◌}
use Rattle.std.proofs.Math.Option.{Option, none, some}
use Prim.Native.Nat.{ℕ, zero, suc, ◌+◌, ◌-◌, ◌≤◌, ◌<◌}
use native.Mathlib.Omega.{arith}
use Rattle.std.proofs.Math.ListN.{length, length-append}
use Rattle.definition.specs.declared.Mode.{Mode}
use Rattle.definition.specs.declared.Mode.TheVariants.{Running, Closing, Ended}
use Rattle.definition.specs.declared.Status.TheVariants.{More}
use Rattle.definition.specs.Rows.{any, is_empty, flat, backwards}
use Rattle.definition.specs.Names.{Name}
use Rattle.definition.specs.Chart.{Chart, Names}
use Rattle.follower.specs.Selection.{chooser}
use Rattle.follower.specs.Blocks.{Effect, exited, taken, entered, acted, raised, done, chosen, sent, cancelled, queued}
use Rattle.follower.specs.Microstep.{stored_in, exit_effects, exiting, effects, configuration_after}
use Rattle.follower.specs.Follower.{Follower, most_queued, mode_of, Round, idle, over, did, taking, selected_by, by_external, by_internal, by_eventless, closing_round, round_in, round, Timed, timed, stopped, counted, run}
use Rattle.follower.specs.Legal.{WellFormed}
use Rattle.laws.specs.Bools.{no}
use Rattle.laws.specs.Lists.{list_full}
use Rattle.laws.specs.Folds.{backwards_length}
use Rattle.theory.specs.Runs.{round_cases, next_of, run_zero, run_cases, run_room, run_more}
use Rattle.theory.specs.Shown.{if_taken, taken_in, taken_effects}

-- the names that wait in both queues
unfoldable pub waiting : Follower → ℕ
waiting s = length s.internal + length s.external

-- a closing session has something to exit
pub record Closes (s : Follower) : Type 0 where
  pub some : s.mode ≡ Closing → is_empty s.configuration ≡ false

-- ---- entries

-- an entry queues a name or takes a transition, or neither
one_use : (c : Chart) (names : Names) (e : Effect) → length (queued c names e) + length (if_taken e) ≤ 1
unfolding queued if_taken
one_use c names (exited i) = omega arith
one_use c names (taken t) = omega arith
one_use c names (entered i) = omega arith
one_use c names (acted n) = omega arith
one_use c names (raised n) = omega arith
one_use c names (done i) = omega arith
one_use c names (chosen i) = omega arith
one_use c names (sent n delay id) = omega arith
one_use c names (cancelled n) = omega arith

uses : (c : Chart) (names : Names) (es : List Effect) → length (flat (queued c names) es) + length (taken_in es) ≤ length es
unfolding flat taken_in
uses c names [] = omega arith
uses c names (e ∷ es) =
    let a = one_use c names e in
    let b = uses c names es in
    let p = length-append (queued c names e) (flat (queued c names) es) in
    let q = length-append (if_taken e) (flat if_taken es) in
    omega arith

-- each row that is exited is an entry
flat_long : (c : Chart) (conf out xs : List ℕ) → length xs ≤ length (flat (exit_effects c conf out) xs)
unfolding flat exit_effects
flat_long c conf out [] = omega arith
flat_long c conf out (x ∷ xs) =
    let h = flat_long c conf out xs in let e = length-append (exit_effects c conf out x) (flat (exit_effects c conf out) xs) in omega arith

full_length : (xs : List ℕ) → is_empty xs ≡ false → 1 ≤ length xs
unfolding is_empty
full_length [] h = absurd (no (sym h))
full_length (x ∷ xs) h = omega arith

-- ---- one round

module _ (c : Chart) (names : Names) (s : Follower) where
  abbrev Spent : Round → Type 0
  Spent idle = Unit {0}
  Spent over = Unit {0}
  Spent (did next es) = suc (waiting next) ≤ waiting s + length es

  taking_spent : (event : Option Name) (internal external : List Name) (ts : List ℕ) → suc (length internal + length external) ≤ waiting s + length ts → Spent (taking c names s event internal external ts)
  unfolding taking waiting
  taking_spent event internal external ts l =
      let by = chooser c names s.configuration event in
      let u = uses c names (effects c s.configuration (stored_in s.history) by ts) in
      let t = ap {B = ℕ} length (taken_effects c s.configuration (stored_in s.history) by ts) in
      let q = length-append internal (flat (queued c names) (effects c s.configuration (stored_in s.history) by ts)) in
      omega arith

  by_external_lem : (es : List Name) → s.external ≡ es → Spent (by_external c names s es)
  unfolding by_external waiting
  by_external_lem [] e = tt
  by_external_lem (x ∷ xs) e = let q = ap {B = ℕ} length e in taking_spent (some x) [] xs (selected_by c names s _) (unfold waiting in omega arith)

  by_internal_lem : (es : List Name) → s.internal ≡ es → Spent (by_internal c names s es)
  unfolding by_internal waiting
  by_internal_lem [] e = by_external_lem s.external refl
  by_internal_lem (x ∷ xs) e = let q = ap {B = ℕ} length e in taking_spent (some x) xs s.external (selected_by c names s _) (unfold waiting in omega arith)

  by_eventless_lem : (ts : List ℕ) → Spent (by_eventless c names s ts)
  unfolding by_eventless waiting
  by_eventless_lem [] = by_internal_lem s.internal refl
  by_eventless_lem (t ∷ ts) = taking_spent none s.internal s.external (t ∷ ts) (unfold waiting in omega arith)

  closing_spent : is_empty s.configuration ≡ false → Spent (closing_round c s)
  unfolding closing_round exiting waiting
  closing_spent h =
      let a = full_length s.configuration h in
      let b = backwards_length s.configuration in
      let l = flat_long c s.configuration s.configuration (backwards s.configuration) in
      omega arith

  -- a completed round writes more entries than it leaves names more
  pub round_spent : Closes s → Spent (round c names s)
  unfolding round round_in
  round_spent h = go s.mode refl
    where
      go : (m : Mode) → s.mode ≡ m → Spent (round_in m c names s)
      go Running e = by_eventless_lem (selected_by c names s _)
      go Closing e = closing_spent (h.some e)
      go Ended e = tt

  -- and where it leaves a closing session, a final under root is active
  abbrev ClosesAfter : Round → Type 0
  ClosesAfter idle = Unit {0}
  ClosesAfter over = Unit {0}
  ClosesAfter (did next es) = Closes next

  mode_closes : (conf : List ℕ) → mode_of c conf ≡ Closing → is_empty conf ≡ false
  unfolding mode_of any
  mode_closes [] h = let z : ◌≡◌ {A = ℕ} 0 1 = cc in absurd (omega arith)
  mode_closes (x ∷ xs) h = unfold is_empty in refl

  round_closes : ClosesAfter (round c names s)
  unfolding taking closing_round
  round_closes =
      round_cases c names s ClosesAfter (λ m. tt) (λ m. tt) (λ m. record { some = λ h. let z : ◌≡◌ {A = ℕ} 0 1 = cc in absurd (omega arith) })
      (λ m internal external event h. record { some = mode_closes (configuration_after c s.configuration (stored_in s.history) (selected_by c names s event)) })

-- ---- a run

module _ (c : Chart) (names : Names) where
  -- the rounds are no more than the names that waited and the entries
  pub run_spent : (k : ℕ) (s : Timed) (room : ℕ) → Closes s.follower → (run c names k s room).rounds ≤ waiting s.follower + length (run c names k s room).effects
  unfolding stopped counted next_of timed
  run_spent zero s room h = rw (run_zero c names s room) (omega arith)
  run_spent (suc k) s room h =
      run_cases c names (λ r. r.rounds ≤ waiting s.follower + length r.effects) k s room (λ e. omega arith) (λ e. omega arith) (λ next es a e q. omega arith)
      (λ next es e q.
      let i = run_spent k (next_of c names s next es) (room - length es) (subst (ClosesAfter c names s.follower) e (round_closes c names s.follower)) in
      let l = subst (Spent c names s.follower) e (round_spent c names s.follower h) in
      let p = length-append es (run c names k (next_of c names s next es) (room - length es)).effects in
      omega arith)

  -- so they are no more than the names that waited and the room
  pub run_bounded : (k : ℕ) (s : Timed) (room : ℕ) → Closes s.follower → (run c names k s room).rounds ≤ waiting s.follower + room
  run_bounded k s room h = let a = run_spent k s room h in let b = run_room c names k s room in omega arith

  -- and a run that is asked for more does not answer more: it ends idle, ended or refused
  pub run_stops : (k : ℕ) (s : Timed) (room : ℕ) → Closes s.follower → waiting s.follower + room < k → (run c names k s room).status ≡ More → ⊥
  run_stops k s room h l m = let a = run_bounded k s room h in let e = run_more c names k s room m in omega arith

-- ---- a well-formed session

pub well_formed_closes : (c : Chart) (s : Follower) → WellFormed c s → Closes s
unfolding any
well_formed_closes c s w = record { some = λ m. list_full s.configuration (λ e. no (rw e at (w.closing.0 m))) }

pub well_formed_waiting : (c : Chart) (s : Follower) → WellFormed c s → waiting s ≤ most_queued + most_queued
unfolding waiting
well_formed_waiting c s w = let a = w.internal_short in let b = w.external_short in omega arith
