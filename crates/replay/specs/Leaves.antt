-- Entries that lead from the accepted start on, with the outcomes that they stand for: they are replayed, and so are the first of them.
use Rattle.std.specs.Prelude.{◌≡◌, ℕ, zero, suc, ◌≤◌, ◌<◌, leb, take}
use Rattle.std.proofs.Math.Path.{refl}
use Rattle.std.proofs.Common.{sym, ◌∙◌, arith, length-take-le, take_all, leb-true, leb-false, le-ltb}
use mathlib.Core.List.{List, [], ◌∷◌, ◌++◌, map}
use Rattle.std.proofs.Math.Option.{Option, some}
use Rattle.std.proofs.Math.ListN.{length, length-append}
use Rattle.std.proofs.lemmas.List.{take-append-le}
use Rattle.definition.specs.Chart.{Chart, Names}
use Rattle.follower.specs.Blocks.{trace_no}
use Rattle.laws.specs.Bools.{bool_case}
use Rattle.recorded.specs.Journal.{Entered, At, again, on_to, through, started_at, replayed, unless_no_room, replay}
use Rattle.recorded.specs.Recorded.{RecordedOutcome}
use Rattle.replay.specs.Ledger.{outcome_at, ReplaysTo}

-- ---- the outcome at a place

pub outcome_front : (k : ℕ) (os : List RecordedOutcome) → outcome_at k (take (suc k) os) ≡ outcome_at k os
unfolding outcome_at
outcome_front k [] = refl
outcome_front zero (o ∷ os) = refl
outcome_front (suc k) (o ∷ os) = outcome_front k os

pub outcome_last : (os : List RecordedOutcome) (o : RecordedOutcome) → outcome_at (length os) (os ++ (o ∷ [])) ≡ some o
unfolding outcome_at
outcome_last [] o = refl
outcome_last (x ∷ os) o = outcome_last os o

pub outcome_there : (k : ℕ) (os : List RecordedOutcome) (o : RecordedOutcome) → outcome_at k os ≡ some o → k < length os
unfolding outcome_at
outcome_there k [] o h = let w : ◌≡◌ {A = ℕ} 0 1 = cc in absurd (omega arith)
outcome_there zero (x ∷ os) o h = omega arith
outcome_there (suc k) (x ∷ os) o h = let l = outcome_there k os o h in omega arith

some_same : (x y : RecordedOutcome) → some x ≡ some y → x ≡ y
some_same x y h = cc

-- ---- the entries of a started session

module _ (c : Chart) (names : Names) where
  -- the last call came to a, and its outcome says so
  pub record Told (a : At) (o : RecordedOutcome) : Type 0 where
    pub state : a.state ≡ o.after.state
    pub trace : map trace_no a.effects ≡ o.trace

  pub data Leaves : List Entered → List RecordedOutcome → At → Type 0 where
    begun : (a : At) (o : RecordedOutcome) → started_at c names ≡ some a → Told a o → Leaves [] (o ∷ []) a
    more : (js : List Entered) (os : List RecordedOutcome) (a : At) (e : Entered) (b : At) (o : RecordedOutcome) → Leaves js os a → again c names a.state e ≡ some b → Told b o → Leaves (js ++ (e ∷ [])) (os ++ (o ∷ [])) b

  through_last : (o : Option At) (js : List Entered) (e : Entered) → through c names o (js ++ (e ∷ [])) ≡ on_to c names (through c names o js) e
  unfolding through
  through_last o [] e = refl
  through_last o (j ∷ js) e = through_last (on_to c names o j) js e

  pub replayed_last : (js : List Entered) (e : Entered) → replayed c names (js ++ (e ∷ [])) ≡ on_to c names (replayed c names js) e
  unfolding replayed
  replayed_last js e = through_last (started_at c names) js e

  pub leaves_replayed : (js : List Entered) (os : List RecordedOutcome) (a : At) → Leaves js os a → replayed c names js ≡ some a
  unfolding replayed through on_to
  leaves_replayed _ _ _ (begun a o e t) = e
  leaves_replayed _ _ _ (more js os a e b o l h t) = replayed_last js e ∙ rw (leaves_replayed js os a l) h

  pub leaves_many : (js : List Entered) (os : List RecordedOutcome) (a : At) → Leaves js os a → length os ≡ suc (length js)
  leaves_many _ _ _ (begun a o e t) = refl
  leaves_many _ _ _ (more js os a e b o l h t) =
      let m = leaves_many js os a l in
      omega (arith, length-append os (o ∷ []), length-append js (e ∷ []))

  pub leaves_told : (js : List Entered) (os : List RecordedOutcome) (a : At) → Leaves js os a → (o : RecordedOutcome) → outcome_at (length js) os ≡ some o → Told a o
  leaves_told _ _ _ (begun a x e t) o h = unfold outcome_at in let q : x ≡ o = some_same x o h in rw (← q) t
  leaves_told _ _ _ (more js os a e b x l h t) o g =
      let m = leaves_many js os a l in
      let n : length (js ++ (e ∷ [])) ≡ length os = simp length-append (omega arith) in
      let q : x ≡ o = some_same x o (sym (outcome_last os x) ∙ rw n at g) in
      rw (← q) t

  -- the first k entries are left too
  pub record Left (js : List Entered) (os : List RecordedOutcome) : Type 0 where
    pub at : At
    pub leaves : Leaves js os at

  pub first_left : (js : List Entered) (os : List RecordedOutcome) (a : At) → Leaves js os a → (k : ℕ) → k ≤ length js → Left (take k js) (take (suc k) os)
  first_left _ _ _ (begun a o e t) k m =
      rw (take_all {A = Entered} k [] (omega arith), take_all (suc k) (o ∷ []) (omega arith)) (record { at = a; leaves = begun a o e t })
  first_left _ _ _ (more js os a e b o l h t) k m =
      let n = leaves_many js os a l in
      bool_case (leb k (length js))
      (λ q. let w : k ≤ length js = leb-true _ _ q in rw (take-append-le k js (e ∷ []) w, take-append-le (suc k) os (o ∷ []) (omega arith)) (first_left js os a l k w))
      (λ q.
      let w : length js < k = leb-false _ _ q in
      rw (take_all k (js ++ (e ∷ [])) (simp length-append (omega arith)), take_all (suc k) (os ++ (o ∷ [])) (simp length-append (omega arith)))
      (record { at = b; leaves = more js os a e b o l h t }))

  pub replay_first : (js : List Entered) (k room : ℕ) (a : At) → k ≤ length js → replayed c names (take k js) ≡ some a → replay c names js k room ≡ unless_no_room room (some a)
  unfolding replay
  replay_first js k room a l h = rw (le-ltb (length js) k l, h)

  -- so replay gives what each of them gave
  pub replays_to : (js : List Entered) (os : List RecordedOutcome) (a : At) → Leaves js os a → (k : ℕ) (o : RecordedOutcome) → outcome_at k os ≡ some o → ReplaysTo c names js k o
  replays_to js os a l k o h =
      let m = leaves_many js os a l in
      let w = outcome_there k os o h in
      let f = first_left js os a l k (omega arith) in
      let n = length-take-le k js (omega arith) in
      let t = leaves_told (take k js) (take (suc k) os) f.at f.leaves o (rw n (outcome_front k os ∙ h)) in
      record {
        at = f.at;
        replays = λ room. replay_first js k room f.at (omega arith) (leaves_replayed (take k js) (take (suc k) os) f.at f.leaves);
        state = t.state;
        trace = t.trace;
      }
