-- The theorems of R-10 over the definition, and R-13's cut of a run, with a journal.
use Rattle.std.specs.Prelude.{◌≡◌, refl, Bool, ◌||◌, ◌⊎◌, ◌↔◌}
use Rattle.std.proofs.Math.Path.{sym, ap, ap₂}
use Rattle.std.proofs.Common.{◌∙◌, inl, inr, arith}
use Rattle.std.proofs.Math.Bool.{false}
use mathlib.Core.List.{List, [], ◌∷◌, ◌++◌, map}
use Rattle.std.proofs.Math.Option.{some}
use Prim.Native.Nat.{ℕ, zero, suc, ◌+◌, ◌≤◌, ◌<◌}
use Rattle.std.proofs.Math.Dec.{eqb}
use Rattle.std.proofs.Math.ListN.{length, length-append}
use borrow.Author.Tests.{lt-leb}
use Rattle.definition.specs.declared.Answer.TheVariants.{NoRoom}
use Rattle.definition.specs.declared.Status.TheVariants.{Refused}
use Rattle.definition.specs.Chart.{Chart, Names}
use Rattle.definition.specs.Answers.{answer_no, status_no}
use Rattle.follower.specs.Blocks.{trace_no}
use Rattle.follower.specs.Follower.{Timed, is_ended, Ran, run}
use Rattle.follower.specs.Calls.{runs, ran_outcome, follow}
use Rattle.laws.specs.Bools.{bool_case}
use Rattle.theory.specs.Runs.{joined, cuts}
use Rattle.recorded.specs.Journal.{Entered, most_entries, At, replayed}
use Rattle.recorded.specs.Recorded.{Recorded, RecordedCall, calls, RecordedOutcome, entries, journal_after, is_full, recorded_by, follow_recorded}
use Rattle.replay.specs.Ledger.{after_calls, empty_ledger, AllPermitted, Replays, Fresh, LeftBy}
use Rattle.replay.specs.Leaves.{leaves_replayed}
use Rattle.replay.specs.Replays.{runs_replays, Sound, fresh, runs_on, all_sound}
use Rattle.replay.specs.Making.{made_replayed}

map-append : {A B : Type 0} (g : A → B) (xs ys : List A) → map g (xs ++ ys) ≡ map g xs ++ map g ys
map-append g [] ys = refl
map-append {B = B} g (x ∷ xs) ys = ap (λ (l : List B). g x ∷ l) (map-append g xs ys)

module _ (c : Chart) (names : Names) where
  -- "for every k from 0 to the journal's length, where all passes on as in demand 3" (10.4): after every list of calls either no start was accepted, or every entry replays
  pub journal_replays : (xs : List RecordedCall) → AllPermitted xs → Fresh c names (after_calls c names (empty_ledger c) xs) ⊎ Replays c names (after_calls c names (empty_ledger c) xs)
  journal_replays xs p = go (all_sound c names xs p)
    where
      go : Sound c names (after_calls c names (empty_ledger c) xs) → Fresh c names (after_calls c names (empty_ledger c) xs) ⊎ Replays c names (after_calls c names (empty_ledger c) xs)
      go (fresh f) = inl f
      go (runs_on r) = inr (runs_replays c names _ r)

  -- ---- "first k entries that no started session leaves (..) are 9" (10.6): replay accepts exactly the entries that some list of calls leaves

  pub record Accepts (es : List Entered) : Type 0 where
    pub at : At
    pub is : replayed c names es ≡ some at

  left_accepted : (es : List Entered) → LeftBy c names es → Accepts es
  left_accepted es l = go (all_sound c names l.made l.permitted)
    where
      go : Sound c names (after_calls c names (empty_ledger c) l.made) → Accepts es
      go (fresh f) = absurd (l.started f.none)
      go (runs_on r) = record { at = r.at; is = ap (replayed c names) (sym l.leaves) ∙ leaves_replayed c names _ _ r.at r.leaves }

  accepted_left : (es : List Entered) → length es ≤ most_entries → Accepts es → LeftBy c names es
  accepted_left es l a =
      let m = made_replayed c names es a.at l a.is in
      record { made = m.made; permitted = m.permitted; started = m.started; leaves = m.leaves }

  pub accepts_exactly : (es : List Entered) → length es ≤ most_entries → Accepts es ↔ LeftBy c names es
  accepts_exactly es l = (accepted_left es l, left_accepted es)

  -- ---- R-13, first half: "a run of a rounds and then one of b, with b at least 1 and no call between, gives the session, clock record, joined trace, status and summed count of one run of
  -- a+b, provided that no trace room runs out, the journal has room, and a+b is a permitted count" (13.1)

  abbrev ran_by : Recorded → ℕ → ℕ → RecordedOutcome
  ran_by s k room = follow_recorded c names s (calls (runs k room))

  pub record Cut (s : Recorded) (a b room room₁ room₂ : ℕ) : Type 0 where
    pub status : (ran_by (ran_by s a room₁).after b room₂).number ≡ (ran_by s (a + b) room).number
    pub rounds : (ran_by s a room₁).rounds + (ran_by (ran_by s a room₁).after b room₂).rounds ≡ (ran_by s (a + b) room).rounds
    pub trace : (ran_by s a room₁).trace ++ (ran_by (ran_by s a room₁).after b room₂).trace ≡ (ran_by s (a + b) room).trace
    pub state : (ran_by (ran_by s a room₁).after b room₂).after.state ≡ (ran_by s (a + b) room).after.state

  -- a run with a journal that is not full is the run without one
  pub record Plain (s : Recorded) (k room : ℕ) : Type 0 where
    pub number : (ran_by s k room).number ≡ status_no (run c names k s.state room).status
    pub rounds : (ran_by s k room).rounds ≡ (run c names k s.state room).rounds
    pub trace : (ran_by s k room).trace ≡ map trace_no (run c names k s.state room).effects
    pub state : (ran_by s k room).after.state ≡ (run c names k s.state room).state
    pub few : length (ran_by s k room).after.journal ≤ suc (length s.journal)

  entries_few : (ended : Bool) (k room n rounds : ℕ) → length (entries ended (runs k room) n rounds) ≤ 1
  unfolding entries
  entries_few ended k room n rounds = bool_case (ended || eqb n 8 || eqb n 9) (λ q. rw q (omega arith)) (λ q. rw q (omega arith))

  plain_run : (s : Recorded) (k room : ℕ) → length s.journal < most_entries → Plain s k room
  unfolding follow_recorded recorded_by journal_after follow ran_outcome
  plain_run s k room l =
      let f : is_full s.journal ≡ false = not_full l in
      record {
        number = rw f;
        rounds = rw f;
        trace = rw f;
        state = rw f;
        few = rw f (let n = entries_few (is_ended s.state.follower.mode) k room (status_no (run c names k s.state room).status) (run c names k s.state room).rounds in
            simp length-append (omega arith));
      }
    where
      not_full : length s.journal < most_entries → is_full s.journal ≡ false
      not_full l = unfold is_full in lt-leb most_entries (length s.journal) l

  no_room : (r : Ran) (n : ℕ) → n ≡ status_no r.status → (n ≡ 10 → ⊥) → r.status ≡ Refused NoRoom → ⊥
  unfolding status_no answer_no
  no_room r n e z q = z (e ∙ ap status_no q)

  pub cut_recorded : (s : Recorded) (a b room room₁ room₂ : ℕ) → 1 ≤ b → length s.journal + 2 ≤ most_entries → ((ran_by s (a + b) room).number ≡ 10 → ⊥) → ((ran_by s a room₁).number ≡ 10 → ⊥) →
      ((ran_by (ran_by s a room₁).after b room₂).number ≡ 10 → ⊥) → Cut s a b room room₁ room₂
  unfolding joined
  cut_recorded s a zero room room₁ room₂ l w h h₁ h₂ = absurd (omega arith)
  cut_recorded s a (suc b) room room₁ room₂ l w h h₁ h₂ =
      let p = plain_run s (a + suc b) room (omega arith) in
      let p₁ = plain_run s a room₁ (omega arith) in
      let few = p₁.few in
      let p₂ = plain_run (ran_by s a room₁).after (suc b) room₂ (omega arith) in
      let r₁ = run c names a s.state room₁ in
      let e : run c names (suc b) (ran_by s a room₁).after.state room₂ ≡ run c names (suc b) r₁.state room₂ = ap (λ (t : Timed). run c names (suc b) t room₂) p₁.state in
      let r₂ = run c names (suc b) r₁.state room₂ in
      let q : run c names (a + suc b) s.state room ≡ joined c names r₁ r₂ = cuts c names a b s.state room room₁ room₂ (no_room (run c names (a + suc b) s.state room) _ p.number h) (no_room r₁ _ p₁.number h₁) (no_room r₂ _ (p₂.number ∙ ap (λ (r : Ran). status_no r.status) e) h₂) in
      record {
        status = p₂.number ∙ ap (λ (r : Ran). status_no r.status) e ∙ sym (p.number ∙ ap (λ (r : Ran). status_no r.status) q);
        rounds =
            let x = p.rounds in let y = p₁.rounds in let z = p₂.rounds ∙ ap {B = ℕ} (λ (r : Ran). r.rounds) e in let v = ap {B = ℕ} (λ (r : Ran). r.rounds) q in omega arith;
        trace =
            ap₂ {C = List ℕ} (λ xs ys. xs ++ ys) p₁.trace (p₂.trace ∙ ap (λ (r : Ran). map trace_no r.effects) e) ∙ sym (map-append trace_no r₁.effects r₂.effects) ∙
            sym (p.trace ∙ ap (λ (r : Ran). map trace_no r.effects) q);
        state = p₂.state ∙ ap (λ (r : Ran). r.state) e ∙ sym (p.state ∙ ap (λ (r : Ran). r.state) q);
      }
