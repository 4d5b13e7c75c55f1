-- Calls that leave given entries (R-10, sentence 10.6): entries that lead somewhere from the accepted start are left by the start and one call for each of them.
use Rattle.std.proofs.Math.Path.{◌≡◌, refl, sym, ap}
use Rattle.std.proofs.Common.{◌∙◌}
use Rattle.std.specs.Prelude.{Bool, ◌||◌, ℕ, ◌+◌, ◌≤◌, ◌<◌, eqb, ltb}
use Rattle.std.proofs.Math.Bool.{true, false, cond}
use mathlib.Core.List.{List, [], ◌∷◌, ◌++◌, append_assoc, append-nil}
use Rattle.std.proofs.Math.Option.{Option, none, some}
use native.Mathlib.Omega.{arith}
use Rattle.std.proofs.Math.ListN.{length, length-append}
use borrow.Author.Tests.{lt-leb, le-ltb, ltb-false}
use Rattle.definition.specs.Chart.{Chart, Names}
use Rattle.definition.specs.Answers.{answer_no}
use Rattle.follower.specs.Follower.{Timed, most_queued, timed, first_follower, first_table, first_effects, refusal_if, refusal, start_or, start, is_ended}
use Rattle.follower.specs.Calls.{Call, starts, posts, clocks, runs, Outcome, started_outcome, ran_outcome, follow}
use Rattle.laws.specs.Bools.{bool_case, and_false}
use Rattle.recorded.specs.Journal.{Entered, entered_post, entered_clock, entered_run, most_entries, most_rounds, At, accepted, exactly, again, started_at, on_to, through, replayed}
use Rattle.recorded.specs.Recorded.{Recorded, RecordedCall, calls, RecordedOutcome, entries, journal_after, is_such, is_full, recorded_by, follow_recorded}
use Rattle.replay.specs.Again.{exactly_run, run_number}
use Rattle.replay.specs.Ledger.{kept_by, kept_after, Ledger, after_call, after_calls, empty_ledger, Permitted, AllPermitted}

module _ (c : Chart) (names : Names) where
  -- calls that leave the entries es, and the session at a
  pub record Makes (es : List Entered) (a : At) : Type 0 where
    pub made : List RecordedCall
    pub permitted : AllPermitted made
    pub started : (after_calls c names (empty_ledger c) made).kept ≡ [] → ⊥
    pub leaves : (after_calls c names (empty_ledger c) made).now.journal ≡ es
    pub state : (after_calls c names (empty_ledger c) made).now.state ≡ a.state

  after_last : (xs : List RecordedCall) (x : RecordedCall) (l : Ledger) → after_calls c names l (xs ++ (x ∷ [])) ≡ after_call c names (after_calls c names l xs) x
  unfolding after_calls
  after_last [] x l = refl
  after_last (y ∷ xs) x l = after_last xs x (after_call c names l y)

  all_last : (xs : List RecordedCall) (x : RecordedCall) → AllPermitted xs → Permitted x → AllPermitted (xs ++ (x ∷ []))
  all_last [] x p q = (q, tt)
  all_last (y ∷ xs) x p q = (p.0, all_last xs x p.1 q)

  kept_some : (os : List RecordedOutcome) (o : RecordedOutcome) → (os ≡ [] → ⊥) → kept_by os o ≡ [] → ⊥
  unfolding kept_by
  kept_some [] o n e = n refl
  kept_some (x ∷ xs) o n e = let w : ◌≡◌ {A = ℕ} 0 1 = cc in omega arith

  -- ---- one entry more

  -- a call of the session s that leaves the entry, and comes to b
  pub record Enters (s : Recorded) (e : Entered) (b : At) : Type 0 where
    pub made : Call
    pub permitted : Permitted (calls made)
    pub kept : (os : List RecordedOutcome) (o : RecordedOutcome) → kept_after os (calls made) o ≡ kept_by os o
    pub journal : (follow_recorded c names s (calls made)).after.journal ≡ s.journal ++ (e ∷ [])
    pub state : (follow_recorded c names s (calls made)).after.state ≡ b.state

  -- an accepted post or clock call
  pub accepted_some : (o : Outcome) (b : At) → accepted o ≡ some b → (eqb o.number 0 ≡ true) × (o.after ≡ b.state)
  unfolding accepted
  accepted_some o b h =
      bool_case (eqb o.number 0)
      (λ q. let e : record { state = o.after; effects = [] } ≡ b = go q h in (q, ap (λ (x : At). x.state) e))
      (λ q. absurd (none_some (rw q at h)))
    where
      none_some : none ≡ some b → ⊥
      none_some h = let w : ◌≡◌ {A = ℕ} 0 1 = cc in omega arith

      go : eqb o.number 0 ≡ true → cond (eqb o.number 0) (some (record { state = o.after; effects = [] })) none ≡ some b → record { state = o.after; effects = [] } ≡ b
      go q h = let k : some (record { state = o.after; effects = [] }) ≡ some b = rw q at h in cc

  -- what is known of a run's entry
  pub run_known : (t : Timed) (k : ℕ) (b : At) → again c names t (entered_run k) ≡ some b → (is_ended t.follower.mode ≡ false) × (k ≤ most_rounds) × (exactly c names k t ≡ some b)
  unfolding again
  run_known t k b h = go (is_ended t.follower.mode) (ltb most_rounds k) refl refl
    where
      none_some : none ≡ some b → ⊥
      none_some h = let w : ◌≡◌ {A = ℕ} 0 1 = cc in omega arith

      go : (x y : Bool) → is_ended t.follower.mode ≡ x → ltb most_rounds k ≡ y → (is_ended t.follower.mode ≡ false) × (k ≤ most_rounds) × (exactly c names k t ≡ some b)
      go true y p q = absurd (none_some (rw p at h))
      go false true p q = absurd (none_some (rw (p, q) at h))
      go false false p q = (p, ltb-false _ _ q, rw (p, q) at h)

  module _ (s : Recorded) (short : length s.journal < most_entries) where
    abbrev t : Timed
    t = s.state

    not_full : is_full s.journal ≡ false
    unfolding is_full
    not_full = lt-leb most_entries (length s.journal) short

    enters_post : (name : List ℕ) (b : At) → again c names t (entered_post name) ≡ some b → Enters s (entered_post name) b
    unfolding again
    enters_post name b h =
        let q = accepted_some (follow c names t (posts name)) b h in
        record {
          made = posts name;
          permitted = tt;
          kept = λ os o. unfold kept_after in refl;
          journal = unfold follow_recorded recorded_by journal_after entries in rw (not_full, q.0);
          state = unfold follow_recorded recorded_by in rw not_full q.1;
        }

    enters_clock : (ticks : ℕ) (b : At) → again c names t (entered_clock ticks) ≡ some b → Enters s (entered_clock ticks) b
    unfolding again
    enters_clock ticks b h =
        let q = accepted_some (follow c names t (clocks ticks)) b h in
        record {
          made = clocks ticks;
          permitted = tt;
          kept = λ os o. unfold kept_after in refl;
          journal = unfold follow_recorded recorded_by journal_after entries in rw (not_full, q.0);
          state = unfold follow_recorded recorded_by in rw not_full q.1;
        }

    enters_run : (k : ℕ) (b : At) → again c names t (entered_run k) ≡ some b → Enters s (entered_run k) b
    unfolding follow_recorded recorded_by journal_after entries follow ran_outcome kept_after
    enters_run k b h =
        let q = run_known t k b h in
        let d = exactly_run c names k t b q.2 (length b.effects) (omega arith) in
        record {
          made = runs k (length b.effects);
          permitted = q.1;
          kept = λ os o. refl;
          journal = rw (not_full, q.0, run_number c names k t (length b.effects), d.rounds);
          state = rw not_full d.state;
        }

    pub enters : (e : Entered) (b : At) → again c names t e ≡ some b → Enters s e b
    enters (entered_post name) b h = enters_post name b h
    enters (entered_clock ticks) b h = enters_clock ticks b h
    enters (entered_run k) b h = enters_run k b h

  -- ---- all of them

  made_last : (js : List Entered) (a : At) → Makes js a → length js < most_entries → (e : Entered) (b : At) → again c names a.state e ≡ some b → Makes (js ++ (e ∷ [])) b
  unfolding after_call
  made_last js a m l e b h =
      let s = (after_calls c names (empty_ledger c) m.made).now in
      let n : length s.journal < most_entries = rw m.leaves l in
      let g = enters s n e b (rw m.state h) in
      let x = after_last m.made (calls g.made) (empty_ledger c) in
      record {
        made = m.made ++ (calls g.made ∷ []);
        permitted = all_last m.made (calls g.made) m.permitted g.permitted;
        started = λ z.
            kept_some (after_calls c names (empty_ledger c) m.made).kept (follow_recorded c names s (calls g.made)) m.started
            (sym (g.kept _ _) ∙ sym (ap (λ (y : Ledger). y.kept) x) ∙ z);
        leaves = ap (λ (y : Ledger). y.now.journal) x ∙ g.journal ∙ ap (λ (is : List Entered). is ++ (e ∷ [])) m.leaves;
        state = ap (λ (y : Ledger). y.now.state) x ∙ g.state;
      }

  through_none : (es : List Entered) (b : At) → through c names none es ≡ some b → ⊥
  unfolding through on_to
  through_none [] b h = let w : ◌≡◌ {A = ℕ} 0 1 = cc in omega arith
  through_none (e ∷ es) b h = through_none es b h

  made_all : (es js : List Entered) (a : At) → Makes js a → length js + length es ≤ most_entries → (b : At) → through c names (some a) es ≡ some b → Makes (js ++ es) b
  unfolding through on_to
  made_all [] js a m l b h = rw (append-nil js) (let e : a ≡ b = cc in rw (← e) m)
  made_all (e ∷ es) js a m l b h = go (again c names a.state e) refl h (made_all es (js ++ (e ∷ [])))
    where
      go : (o : Option At) → again c names a.state e ≡ o → through c names o es ≡ some b →
          ((a : At) → Makes (js ++ (e ∷ [])) a → length (js ++ (e ∷ [])) + length es ≤ most_entries → (b : At) → through c names (some a) es ≡ some b → Makes (js ++ (e ∷ []) ++ es) b) → Makes (js ++ (e ∷ es)) b
      go none p q ih = absurd (through_none es b q)
      go (some d) p q ih =
          rw (← append_assoc js (e ∷ []) es) (ih d (made_last js a m (omega arith) e d p) (simp length-append (omega arith)) b q)

  -- the accepted start
  pub started_known : (a : At) → started_at c names ≡ some a →
      ((ltb most_queued (length (first_follower c names).internal) || (first_table c names).full) ≡ false) × (a ≡ record { state = timed (first_follower c names) 0 (first_table c names); effects = first_effects c })
  unfolding started_at
  started_known a h = go (ltb most_queued (length (first_follower c names).internal) || (first_table c names).full) refl h
    where
      go : (x : Bool) → (ltb most_queued (length (first_follower c names).internal) || (first_table c names).full) ≡ x →
          cond x none (some (record { state = timed (first_follower c names) 0 (first_table c names); effects = first_effects c })) ≡ some a →
          ((ltb most_queued (length (first_follower c names).internal) || (first_table c names).full) ≡ false) × (a ≡ record { state = timed (first_follower c names) 0 (first_table c names); effects = first_effects c })
      go true p q = let w : ◌≡◌ {A = ℕ} 0 1 = cc in absurd (omega arith)
      go false p q = (p, cc)

  pub start_goes : (ltb most_queued (length (first_follower c names).internal) || (first_table c names).full) ≡ false →
      refusal (length (first_effects c)) (first_follower c names) (first_table c names).full (first_effects c) ≡ none
  unfolding refusal refusal_if
  start_goes f = rw (f, le-ltb (length (first_effects c)) (length (first_effects c)) (omega arith))

  made_start : (a : At) → started_at c names ≡ some a → Makes [] a
  unfolding after_calls after_call kept_after follow_recorded recorded_by is_such journal_after follow started_outcome start start_or answer_no
  made_start a h =
      let k = started_known a h in
      let g = start_goes k.0 in
      record {
        made = calls (starts (length (first_effects c))) ∷ [];
        permitted = (tt, tt);
        started = λ z. some_there (rw (and_false (is_full (empty_ledger c).now.journal), g) at z);
        leaves = rw (and_false (is_full (empty_ledger c).now.journal));
        state = rw (and_false (is_full (empty_ledger c).now.journal), g) (sym (ap (λ (x : At). x.state) k.1));
      }
    where
      some_there : {o : RecordedOutcome} → o ∷ [] ≡ [] → ⊥
      some_there h = let w : ◌≡◌ {A = ℕ} 0 1 = cc in omega arith

  pub made_replayed : (es : List Entered) (a : At) → length es ≤ most_entries → replayed c names es ≡ some a → Makes es a
  unfolding replayed
  made_replayed es a l h = go (started_at c names) refl h
    where
      go : (o : Option At) → started_at c names ≡ o → through c names o es ≡ some a → Makes es a
      go none p q = absurd (through_none es a q)
      go (some d) p q = made_all es [] d (made_start d p) (omega arith) a q
