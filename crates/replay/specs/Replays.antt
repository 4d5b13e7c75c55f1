-- R-10: after every list of calls a started session is where its journal leads, and replay of the first k entries gives what call k gave.
use Rattle.std.proofs.Math.Path.{◌≡◌, refl, ap, subst}
use Rattle.std.proofs.Common.{sym, ◌∙◌, ⊎_elim, length-append, take_all}
use Rattle.std.specs.Prelude.{Bool, not, ◌&&◌, ◌||◌, cond, ◌⊎◌, ltb, take}
use Rattle.std.proofs.Math.Bool.{true, false}
use mathlib.Core.List.{List, [], ◌∷◌, ◌++◌, map, append-nil}
use Rattle.std.proofs.Math.Logic.{inl, inr}
use Rattle.std.proofs.Math.Option.{Option, none, some}
use Prim.Native.Nat.{ℕ, suc, ◌≤◌, ◌<◌}
use native.Mathlib.Omega.{arith}
use Rattle.std.proofs.Math.Dec.{eqb}
use Rattle.std.proofs.Math.ListN.{length}
use Rattle.std.proofs.Math.Seq.{length-take-le}
use Rattle.std.proofs.lemmas.List.{take-append-le}
use borrow.Author.Tests.{le-ltb, leb-false, eqb-true}
use Rattle.definition.specs.declared.Mode.{Mode}
use Rattle.definition.specs.declared.Mode.TheVariants.{Running, Closing, Ended}
use Rattle.definition.specs.declared.Answer.{Answer}
use Rattle.definition.specs.declared.Answer.TheVariants.{NotAName, NoRoom, SessionEnded}
use Rattle.definition.specs.Names.{Name, is_name}
use Rattle.definition.specs.Chart.{Chart, Names}
use Rattle.definition.specs.Answers.{answer_no}
use Rattle.follower.specs.Blocks.{trace_no}
use Rattle.follower.specs.Follower.{Timed, ended_follower, most_queued, timed, first_follower, first_table, first_effects, refusal_if, refusal, start_or, start, round_in, round, over, is_ended, post_answer, post, clock_answer, clock, stopped, run}
use Rattle.follower.specs.Calls.{Call, starts, posts, clocks, runs, Outcome, started_outcome, ran_outcome, follow, at_rest}
use Rattle.laws.specs.Answers.{answer_done}
use Rattle.laws.specs.Bools.{and_false, not_so, no, clash, bool_case, and_true}
use Rattle.theory.specs.Runs.{refusal_not_done, run_over, run_rounds}
use Rattle.recorded.specs.Journal.{Entered, entered_post, entered_clock, entered_run, most_entries, most_rounds, At, accepted, again, started_at, refused, reached, unless_no_room, replay}
use Rattle.recorded.specs.Recorded.{Recorded, RecordedCall, calls, steps_back, RecordedOutcome, entries, journal_after, is_such, is_full, leaving, recorded_by, back_to, back, follow_recorded, recorded_at_rest}
use Rattle.replay.specs.Again.{run_exactly, run_number}
use Rattle.replay.specs.Ledger.{kept_by, kept_after, Ledger, after_call, after_calls, empty_ledger, Permitted, AllPermitted, Replays, Fresh}
use Rattle.replay.specs.Leaves.{Told, Leaves, begun, more, leaves_replayed, leaves_many, leaves_told, first_left, replay_first, replays_to}

-- ---- a call without a journal, by what is entered of it

module _ (c : Chart) (names : Names) (s : Timed) where
  abbrev ended : Bool
  ended = is_ended s.follower.mode

  -- nothing, and the state is as it was
  pub record Unentered (x : Call) : Type 0 where
    pub nothing : entries ended x (follow c names s x).number (follow c names s x).rounds ≡ []
    pub stays : (follow c names s x).after ≡ s

  -- an entry of which the call can be made again
  pub record Enters (x : Call) : Type 0 where
    pub entry : Entered
    pub at : At
    pub entered : entries ended x (follow c names s x).number (follow c names s x).rounds ≡ entry ∷ []
    pub such : is_such ended x (follow c names s x).number ≡ true
    pub again_is : again c names s entry ≡ some at
    pub state : at.state ≡ (follow c names s x).after
    pub trace : map trace_no at.effects ≡ (follow c names s x).trace

  post_refused : (name : Name) → eqb (answer_no (post_answer s.follower name)) 0 ≡ false → Unentered (posts name)
  unfolding follow post entries
  post_refused name h = record { nothing = rw h; stays = rw h }

  clock_refused : (ticks : ℕ) → eqb (answer_no (clock_answer s ticks)) 0 ≡ false → Unentered (clocks ticks)
  unfolding follow clock entries
  clock_refused ticks h = record { nothing = rw h; stays = rw h }

  ended_over : ended ≡ true → round c names s.follower ≡ over
  unfolding round is_ended round_in
  ended_over h = go s.follower.mode refl h
    where
      go : (m : Mode) → s.follower.mode ≡ m → is_ended m ≡ true → round_in s.follower.mode c names s.follower ≡ over
      go Ended e h = rw e
      go Running e h = absurd (no h)
      go Closing e h = absurd (no h)

  -- of an ended session nothing is entered
  ended_run : (k room : ℕ) → ended ≡ true → Unentered (runs k room)
  unfolding follow ran_outcome entries stopped
  ended_run k room h = record { nothing = rw h; stays = rw (run_over c names k s room (ended_over h)) }

  ended_post : (name : Name) → ended ≡ true → Unentered (posts name)
  ended_post name h = post_refused name (unfold post_answer in rw h (go (not (is_name name))))
    where
      go : (x : Bool) → eqb (answer_no (cond x NotAName SessionEnded)) 0 ≡ false
      go true = unfold answer_no in refl
      go false = unfold answer_no in refl

  ended_clock : (ticks : ℕ) → ended ≡ true → Unentered (clocks ticks)
  ended_clock ticks h = clock_refused ticks (unfold clock_answer answer_no in rw h)

  post_entered : (name : Name) → Unentered (posts name) ⊎ Enters (posts name)
  unfolding follow post entries is_such again accepted
  post_entered name =
      bool_case (eqb (answer_no (post_answer s.follower name)) 0)
      (λ h. inr (record {
        entry = entered_post name;
        at = record { state = (follow c names s (posts name)).after; effects = [] };
        entered = rw h;
        such = rw h;
        again_is = rw h;
        state = refl;
        trace = refl;
      }))
      (λ h. inl (post_refused name h))

  clock_entered : (ticks : ℕ) → Unentered (clocks ticks) ⊎ Enters (clocks ticks)
  unfolding follow clock entries is_such again accepted
  clock_entered ticks =
      bool_case (eqb (answer_no (clock_answer s ticks)) 0)
      (λ h. inr (record {
        entry = entered_clock ticks;
        at = record { state = (follow c names s (clocks ticks)).after; effects = [] };
        entered = rw h;
        such = rw h;
        again_is = rw h;
        state = refl;
        trace = refl;
      }))
      (λ h. inl (clock_refused ticks h))

  run_entered : (k room : ℕ) → k ≤ most_rounds → Unentered (runs k room) ⊎ Enters (runs k room)
  unfolding follow ran_outcome entries is_such again stopped
  run_entered k room l =
      bool_case ended
      (λ h. inl (ended_run k room h))
      (λ h. inr (record {
        entry = entered_run (run c names k s room).rounds;
        at = record { state = (run c names k s room).state; effects = (run c names k s room).effects };
        entered = rw (h, run_number c names k s room);
        such = rw (h, run_number c names k s room);
        again_is = rw (h, le-ltb most_rounds (run c names k s room).rounds (omega (arith, run_rounds c names k s room))) (run_exactly c names k s room);
        state = refl;
        trace = refl;
      }))

-- ---- a session with its journal: it was started, and is where its entries lead

module _ (c : Chart) (names : Names) where
  pub record Runs (l : Ledger) : Type 0 where
    pub at : At
    pub leaves : Leaves c names l.now.journal l.kept at
    pub state : at.state ≡ l.now.state
    pub few : length l.now.journal ≤ most_entries

  pub runs_replays : (l : Ledger) → Runs l → Replays c names l
  runs_replays l r = record {
    few = r.few;
    many = leaves_many c names l.now.journal l.kept r.at r.leaves;
    each = replays_to c names l.now.journal l.kept r.at r.leaves;
    last = λ o h. sym (leaves_told c names l.now.journal l.kept r.at r.leaves o h).state ∙ r.state;
  }

  kept_made : (os : List RecordedOutcome) (o : RecordedOutcome) → 0 < length os → kept_by os o ≡ take (suc (length o.after.journal)) (os ++ (o ∷ []))
  unfolding kept_by
  kept_made [] o l = absurd (omega arith)
  kept_made (x ∷ xs) o l = refl

  module _ (l : Ledger) (r : Runs l) where
    abbrev s : Recorded
    s = l.now

    many : length l.kept ≡ suc (length s.journal)
    many = leaves_many c names s.journal l.kept r.at r.leaves

    -- a call other than a start, by its outcome
    abbrev After : RecordedOutcome → Type 0
    After o = Runs (record { now = o.after; kept = kept_by l.kept o })

    -- one that leaves session and journal as they are
    unchanged : (o : RecordedOutcome) → o.after ≡ s → After o
    unchanged o e =
        let m = many in
        let j : length o.after.journal ≡ length s.journal = ap {B = ℕ} (λ (x : Recorded). length x.journal) e in
        let n : kept_by l.kept o ≡ l.kept = kept_made l.kept o (omega arith) ∙ take-append-le (suc (length o.after.journal)) l.kept (o ∷ []) (omega arith) ∙ take_all (suc (length o.after.journal)) l.kept (omega arith) in
        rw (n, e) r

    -- one that is entered
    entered : (o : RecordedOutcome) (e : Entered) (b : At) → length s.journal < most_entries → o.after.journal ≡ s.journal ++ (e ∷ []) → again c names s.state e ≡ some b → Told c names b o →
        After o
    entered o e b w j h t =
        let m = many in
        let n : length o.after.journal ≡ suc (length s.journal) = ap {B = ℕ} length j ∙ simp length-append (omega arith) in
        let k : kept_by l.kept o ≡ l.kept ++ (o ∷ []) = kept_made l.kept o (omega arith) ∙ take_all (suc (length o.after.journal)) (l.kept ++ (o ∷ [])) (simp length-append (omega arith)) in
        record {
          at = b;
          leaves = subst (λ (js : List Entered). Leaves c names js (kept_by l.kept o) b) (sym j) (subst (λ (os : List RecordedOutcome). Leaves c names (s.journal ++ (e ∷ [])) os b) (sym k) (more_left e b o h t));
          state = t.state;
          few = omega arith;
        }
      where
        more_left : (e : Entered) (b : At) (o : RecordedOutcome) → again c names s.state e ≡ some b → Told c names b o → Leaves c names (s.journal ++ (e ∷ [])) (l.kept ++ (o ∷ [])) b
        more_left e b o h t = more s.journal l.kept r.at e b o r.leaves (rw r.state h) t

    -- ---- a call that could be made without a journal, but no start

    abbrev plain : Call → Outcome
    plain x = follow c names s.state x

    abbrev ends : Bool
    ends = is_ended s.state.follower.mode

    -- what is entered of it is put behind the others
    pub record Appends (x : Call) : Type 0 where
      pub is : journal_after s.journal ends x (plain x).number (plain x).rounds ≡ s.journal ++ entries ends x (plain x).number (plain x).rounds

    call_runs : (x : Call) → Appends x → Unentered c names s.state x ⊎ Enters c names s.state x →
        After (recorded_by s ends x (plain x))
    call_runs x a u = bool_case (is_full s.journal && is_such ends x (plain x).number) (λ h. refuses h) (λ h. ⊎_elim (λ (v : Unentered c names s.state x). stays h v) (λ (v : Enters c names s.state x). enters h v) u)
      where
        refuses : (is_full s.journal && is_such ends x (plain x).number) ≡ true → After (recorded_by s ends x (plain x))
        refuses h = unchanged (recorded_by s ends x (plain x)) (unfold recorded_by leaving in rw h)

        stays : (is_full s.journal && is_such ends x (plain x).number) ≡ false → Unentered c names s.state x →
            After (recorded_by s ends x (plain x))
        stays h v = unchanged (recorded_by s ends x (plain x)) (unfold recorded_by in rw (h, a.is, v.nothing, v.stays, append-nil))

        enters : (is_full s.journal && is_such ends x (plain x).number) ≡ false → Enters c names s.state x →
            After (recorded_by s ends x (plain x))
        enters h v =
            entered (recorded_by s ends x (plain x)) v.entry v.at (not_full (is_full s.journal) refl) (unfold recorded_by in rw (h, a.is, v.entered)) v.again_is
            (record { state = unfold recorded_by in rw h v.state; trace = unfold recorded_by in rw h v.trace })
          where
            not_full : (f : Bool) → is_full s.journal ≡ f → length s.journal < most_entries
            not_full true e = absurd (clash _ (and_true (is_full s.journal) (is_such ends x (plain x).number) e v.such) h)
            not_full false e = leb-false _ _ (unfold is_full in e)

    -- ---- a step back

    to_reached : (ks : List Entered) (a : At) → (back_to s ks (reached a)).after ≡ record { state = a.state; journal = ks }
    unfolding back_to
    to_reached ks a = refl

    back_is : (j : Entered) (js : List Entered) (room : ℕ) (a : At) → replay c names (j ∷ js) (length js) room ≡ unless_no_room room (some a) →
        back c names s (j ∷ js) room ≡ back_to s (take (length js) (j ∷ js)) (cond (ltb room (length a.effects)) (refused NoRoom) (reached a))
    unfolding back unless_no_room
    back_is j js room a q = rw q

    back_runs : (room : ℕ) → After (back c names s s.journal room)
    back_runs room = go s.journal refl
      where
        dropped : (o : RecordedOutcome) (js : List Entered) → suc (length js) ≤ most_entries → length o.after.journal ≡ length js → (ks : List Entered) → o.after.journal ≡ ks → (a : At) →
            Leaves c names ks (take (suc (length js)) l.kept) a → suc (length js) ≡ length s.journal → a.state ≡ o.after.state → After o
        dropped o js w t ks g a f n z =
            let m = many in
            let k : kept_by l.kept o ≡ take (suc (length js)) l.kept = kept_made l.kept o (omega arith) ∙ ap (λ (i : ℕ). take (suc i) (l.kept ++ (o ∷ []))) t ∙ take-append-le (suc (length js)) l.kept (o ∷ []) (omega arith) in
            record {
              at = a;
              leaves = subst (λ (is : List Entered). Leaves c names is (kept_by l.kept o) a) (sym g) (subst (λ (os : List RecordedOutcome). Leaves c names ks os a) (sym k) f);
              state = z;
              few = omega arith;
            }

        reaches : (j : Entered) (js : List Entered) → s.journal ≡ j ∷ js → (a : At) → Leaves c names (take (length js) (j ∷ js)) (take (suc (length js)) l.kept) a → (n : Bool) →
            After (back_to s (take (length js) (j ∷ js)) (cond n (refused NoRoom) (reached a)))
        reaches j js e a f true = unchanged (back_to s (take (length js) (j ∷ js)) (refused NoRoom)) (unfold back_to leaving in refl)
        reaches j js e a f false =
            let m = many in
            let w = r.few in
            let n : length s.journal ≡ suc (length js) = ap {B = ℕ} length e in
            let o = back_to s (take (length js) (j ∷ js)) (reached a) in
            let t : length (take (length js) (j ∷ js)) ≡ length js = length-take-le (length js) (j ∷ js) (omega arith) in
            let z = to_reached (take (length js) (j ∷ js)) a in
            dropped o js (omega arith) (ap {B = ℕ} (λ (x : Recorded). length x.journal) z ∙ t) (take (length js) (j ∷ js)) (ap (λ (x : Recorded). x.journal) z) a f (sym n) (sym (ap (λ (x : Recorded). x.state) z))

        go : (js : List Entered) → s.journal ≡ js → After (back c names s js room)
        go [] e = unchanged (back c names s [] room) (unfold back leaving in refl)
        go (j ∷ js) e =
            let n : length s.journal ≡ suc (length js) = ap {B = ℕ} length e in
            let f = first_left c names s.journal l.kept r.at r.leaves (length js) (omega arith) in
            let g : Leaves c names (take (length js) (j ∷ js)) (take (suc (length js)) l.kept) f.at = subst (λ (xs : List Entered). Leaves c names (take (length js) xs) (take (suc (length js)) l.kept) f.at) e f.leaves in
            let q = replay_first c names (j ∷ js) (length js) room f.at (omega arith) (leaves_replayed c names (take (length js) (j ∷ js)) (take (suc (length js)) l.kept) f.at g) in
            subst After (sym (back_is j js room f.at q)) (reaches j js e f.at g (ltb room (length f.at.effects)))

  -- ---- whole lists of calls

  pub data Sound (l : Ledger) : Type 0 where
    fresh : Fresh c names l → Sound l
    runs_on : Runs l → Sound l

  -- a start
  module _ (l : Ledger) (room : ℕ) where
    abbrev begins : RecordedOutcome
    begins = follow_recorded c names l.now (calls (starts room))

    abbrev first : At
    first = record { state = timed (first_follower c names) 0 (first_table c names); effects = first_effects c }

    -- the outcome by its refusal, if there is one
    abbrev outcome : Option Answer → RecordedOutcome
    outcome o = record {
      number = answer_no (start_or c names o).answer;
      rounds = 0;
      trace = map trace_no (start_or c names o).effects;
      after = record { state = (start_or c names o).state; journal = [] };
    }

    begun_by : (o : Option Answer) → refusal room (first_follower c names) (first_table c names).full (first_effects c) ≡ o → begins ≡ outcome o
    unfolding follow_recorded recorded_by is_such journal_after follow started_outcome start
    begun_by o e = rw (and_false (is_full l.now.journal), e)

    started : refusal room (first_follower c names) (first_table c names).full (first_effects c) ≡ none → started_at c names ≡ some first
    unfolding started_at refusal
    started e = rw (not_full (ltb most_queued (length (first_follower c names).internal) || (first_table c names).full) (ltb room (length (first_effects c))) e)
      where
        not_full : (f x : Bool) → refusal_if f x ≡ none → f ≡ false
        not_full true x h = unfold refusal_if in let w : ◌≡◌ {A = ℕ} 0 1 = cc in absurd (omega arith)
        not_full false x h = refl

    abbrev Begins : RecordedOutcome → Type 0
    Begins o = Sound (record { now = o.after; kept = cond (eqb o.number 0) (o ∷ []) [] })

    accepted_start : refusal room (first_follower c names) (first_table c names).full (first_effects c) ≡ none → Begins (outcome none)
    unfolding start_or answer_no
    accepted_start e =
        runs_on (record { at = first; leaves = begun first _ (started e) (record { state = refl; trace = refl }); state = refl; few = omega arith })

    refused_start : (a : Answer) → refusal room (first_follower c names) (first_table c names).full (first_effects c) ≡ some a → Begins (outcome (some a))
    unfolding start_or ended_follower is_ended
    refused_start a e = rw (other a e) (fresh (record { ended = refl; empty = refl; none = refl }))
      where
        other : (a : Answer) → refusal room (first_follower c names) (first_table c names).full (first_effects c) ≡ some a → eqb (answer_no a) 0 ≡ false
        other a e = not_so _ (λ q. refusal_not_done room (first_follower c names) (first_table c names).full (first_effects c) (e ∙ ap some (answer_done a (eqb-true _ _ q))))

    pub start_sound : Sound (after_call c names l (calls (starts room)))
    unfolding after_call kept_after
    start_sound = go (refusal room (first_follower c names) (first_table c names).full (first_effects c)) refl
      where
        go : (o : Option Answer) → refusal room (first_follower c names) (first_table c names).full (first_effects c) ≡ o → Begins begins
        go none e = subst Begins (sym (begun_by none e)) (accepted_start e)
        go (some a) e = subst Begins (sym (begun_by (some a) e)) (refused_start a e)

  -- a session that has ended and has entered nothing stays so, but for a start
  module _ (l : Ledger) (f : Fresh c names l) where
    abbrev Stays : RecordedOutcome → Type 0
    Stays o = Sound (record { now = o.after; kept = kept_by l.kept o })

    idle : (o : RecordedOutcome) → o.after ≡ l.now → Stays o
    idle o e = fresh (record { ended = rw e f.ended; empty = rw e f.empty; none = ap (λ (os : List RecordedOutcome). kept_by os o) f.none ∙ (unfold kept_by in refl) })

    unentered : (x : Call) → Unentered c names l.now.state x →
        journal_after l.now.journal (is_ended l.now.state.follower.mode) x (follow c names l.now.state x).number (follow c names l.now.state x).rounds ≡
        l.now.journal ++ entries (is_ended l.now.state.follower.mode) x (follow c names l.now.state x).number (follow c names l.now.state x).rounds →
        Stays (recorded_by l.now (is_ended l.now.state.follower.mode) x (follow c names l.now.state x))
    unentered x u a = idle (recorded_by l.now (is_ended l.now.state.follower.mode) x (follow c names l.now.state x)) same_left
      where
        none_full : is_full l.now.journal ≡ false
        none_full = unfold is_full in rw f.empty

        same_left : (recorded_by l.now (is_ended l.now.state.follower.mode) x (follow c names l.now.state x)).after ≡ l.now
        same_left = unfold recorded_by in rw (none_full, a, u.nothing, u.stays, append-nil)

  -- one call
  pub call_sound : (l : Ledger) → Sound l → (x : RecordedCall) → Permitted x → Sound (after_call c names l x)
  call_sound l p (calls (starts room)) z = start_sound l room
  call_sound l (fresh f) (calls (posts name)) z = unfold after_call kept_after follow_recorded in unentered l f (posts name) (ended_post c names l.now.state name f.ended) (unfold journal_after in refl)
  call_sound l (fresh f) (calls (clocks ticks)) z = unfold after_call kept_after follow_recorded in unentered l f (clocks ticks) (ended_clock c names l.now.state ticks f.ended) (unfold journal_after in refl)
  call_sound l (fresh f) (calls (runs k room)) z = unfold after_call kept_after follow_recorded in unentered l f (runs k room) (ended_run c names l.now.state k room f.ended) (unfold journal_after in refl)
  call_sound l (fresh f) (steps_back room) z = unfold after_call kept_after follow_recorded in idle l f (back c names l.now l.now.journal room) (unfold back leaving in rw f.empty)
  call_sound l (runs_on r) (calls (posts name)) z = unfold after_call kept_after follow_recorded in runs_on (call_runs l r (posts name) (record { is = unfold journal_after in refl }) (post_entered c names l.now.state name))
  call_sound l (runs_on r) (calls (clocks ticks)) z = unfold after_call kept_after follow_recorded in runs_on (call_runs l r (clocks ticks) (record { is = unfold journal_after in refl }) (clock_entered c names l.now.state ticks))
  call_sound l (runs_on r) (calls (runs k room)) z = unfold after_call kept_after follow_recorded in runs_on (call_runs l r (runs k room) (record { is = unfold journal_after in refl }) (run_entered c names l.now.state k room z))
  call_sound l (runs_on r) (steps_back room) z = unfold after_call kept_after follow_recorded in runs_on (back_runs l r room)

  pub calls_sound : (xs : List RecordedCall) (l : Ledger) → Sound l → AllPermitted xs → Sound (after_calls c names l xs)
  unfolding after_calls
  calls_sound [] l p z = p
  calls_sound (x ∷ xs) l p z = calls_sound xs (after_call c names l x) (call_sound l p x z.0) z.1

  -- from rest on
  pub all_sound : (xs : List RecordedCall) → AllPermitted xs → Sound (after_calls c names (empty_ledger c) xs)
  unfolding empty_ledger recorded_at_rest at_rest ended_follower is_ended
  all_sound xs z = calls_sound xs (empty_ledger c) (fresh (record { ended = refl; empty = refl; none = refl })) z
