-- Laws of rounds and runs, over any chart and any follower.
use Rattle.std.proofs.Math.Path.{◌≡◌, refl, ap, sym}
use Rattle.std.proofs.Common.{◌∙◌, zero-add, suc-add, ltb-false}
use Rattle.std.specs.Prelude.{Bool, ◌||◌, ◌⊎◌, ltb}
use Rattle.std.proofs.Math.Bool.{true, false}
use mathlib.Core.List.{List, [], ◌∷◌, ◌++◌, append_assoc}
use Rattle.std.proofs.Math.Logic.{inl, inr, ⊎_elim}
use Rattle.std.proofs.Math.Option.{Option, none, some}
use Prim.Native.Nat.{ℕ, zero, suc, ◌+◌, ◌-◌, ◌≤◌, ◌<◌}
use native.Mathlib.Omega.{arith}
use Rattle.std.proofs.Math.ListN.{length, length-append}
use Rattle.definition.specs.declared.Mode.{Mode}
use Rattle.definition.specs.declared.Mode.TheVariants.{Running, Closing, Ended}
use Rattle.definition.specs.declared.Answer.{Answer}
use Rattle.definition.specs.declared.Answer.TheVariants.{Done, NoRoom}
use Rattle.definition.specs.declared.Status.{Status}
use Rattle.definition.specs.declared.Status.TheVariants.{More, Idle, Ended as HasEnded, Refused}
use Rattle.definition.specs.Names.{Name}
use Rattle.definition.specs.Chart.{Chart, Names}
use Rattle.follower.specs.Blocks.{Effect}
use Rattle.follower.specs.Follower.{Follower, most_queued, Round, idle, over, did, taking, selected_by, by_external, by_internal, by_eventless, closing_round, round_in, round, refusal_if, refusal, Timed, timed, table_in, Ran, stopped, counted, rest_status, unless_refused, proceed_by, proceed, run}

-- ---- a round or start that is not refused: the internal queue is not too long, no send found the table full, and the effects fit the room
pub record Fits (room : ℕ) (next : Follower) (full : Bool) (es : List Effect) : Type 0 where
  pub short : length next.internal ≤ most_queued
  pub spare : full ≡ false
  pub roomy : length es ≤ room

pub not_refused : (room : ℕ) (next : Follower) (full : Bool) (es : List Effect) → refusal room next full es ≡ none → Fits room next full es
unfolding refusal refusal_if
not_refused room next full es h = go (ltb most_queued (length next.internal)) full (ltb room (length es)) refl refl refl h
  where
    go : (long f has_no_room : Bool) → ltb most_queued (length next.internal) ≡ long → full ≡ f → ltb room (length es) ≡ has_no_room → refusal_if (long || f) has_no_room ≡ none → Fits room next full es
    go true f has_no_room e t r h = let z : ◌≡◌ {A = ℕ} 0 1 = cc in absurd (omega arith)
    go false true has_no_room e t r h = let z : ◌≡◌ {A = ℕ} 0 1 = cc in absurd (omega arith)
    go false false true e t r h = let z : ◌≡◌ {A = ℕ} 0 1 = cc in absurd (omega arith)
    go false false false e t r h = record { short = ltb-false _ _ e; spare = t; roomy = ltb-false _ _ r }

-- a refusal is no "done"
pub refusal_not_done : (room : ℕ) (next : Follower) (full : Bool) (es : List Effect) → refusal room next full es ≡ some Done → ⊥
unfolding refusal refusal_if
refusal_not_done room next full es h = go (ltb most_queued (length next.internal) || full) (ltb room (length es)) h
  where
    go : (full has_no_room : Bool) → refusal_if full has_no_room ≡ some Done → ⊥
    go true has_no_room h = let z : ◌≡◌ {A = ℕ} 0 1 = cc in omega arith
    go false true h = let z : ◌≡◌ {A = ℕ} 0 1 = cc in omega arith
    go false false h = let z : ◌≡◌ {A = ℕ} 0 1 = cc in omega arith

-- ---- a round

-- the event of a round that takes transitions, and the queues without it
pub data ChosenEvent (s : Follower) : List Name → List Name → Option Name → Type 0 where
  eventless : ChosenEvent s s.internal s.external none
  oldest_internal : (e : Name) (es : List Name) → s.internal ≡ e ∷ es → ChosenEvent s es s.external (some e)
  oldest_external : (e : Name) (es : List Name) → s.internal ≡ [] → s.external ≡ e ∷ es → ChosenEvent s [] es (some e)

-- the ways that a round goes
module _ (c : Chart) (names : Names) (s : Follower) where
  pub round_cases {ℓ} : (P : Round → Type ℓ) →
      (s.mode ≡ Running → P idle) →
      (s.mode ≡ Ended → P over) →
      (s.mode ≡ Closing → P (closing_round c s)) →
      (s.mode ≡ Running → (internal external : List Name) (event : Option Name) → ChosenEvent s internal external event →
      P (taking c names s event internal external (selected_by c names s event))) →
      P (round c names s)
  unfolding round round_in by_eventless by_internal by_external
  round_cases P i o r t = by_mode s.mode refl
    where
      by_external_lem : s.mode ≡ Running → s.internal ≡ [] → (es : List Name) → s.external ≡ es → P (by_external c names s es)
      by_external_lem m q [] e = i m
      by_external_lem m q (x ∷ xs) e = t m [] xs (some x) (oldest_external x xs q e)

      by_internal_lem : s.mode ≡ Running → (es : List Name) → s.internal ≡ es → P (by_internal c names s es)
      by_internal_lem m [] e = by_external_lem m e s.external refl
      by_internal_lem m (x ∷ xs) e = t m xs s.external (some x) (oldest_internal x xs e)

      by_eventless_lem : s.mode ≡ Running → (ts : List ℕ) → selected_by c names s none ≡ ts → P (by_eventless c names s ts)
      by_eventless_lem m [] e = by_internal_lem m s.internal refl
      by_eventless_lem m (u ∷ us) e = rw (← e) (t m s.internal s.external none eventless)

      by_mode : (m : Mode) → s.mode ≡ m → P (round_in m c names s)
      by_mode Running e = by_eventless_lem e (selected_by c names s none) refl
      by_mode Closing e = r e
      by_mode Ended e = o e

module _ (c : Chart) (names : Names) where
  -- ---- what a run does next

  -- the state after a round that is done
  unfoldable pub next_of : Timed → Follower → List Effect → Timed
  next_of s next es = timed next s.clock.ticks (table_in s.follower.mode names s.clock es)

  -- and its refusal
  unfoldable pub refused_by : ℕ → Timed → Follower → List Effect → Option Answer
  refused_by room s next es = refusal room next (table_in s.follower.mode names s.clock es).full es

  pub run_zero : (s : Timed) (room : ℕ) → run c names zero s room ≡ stopped (rest_status (round c names s.follower)) s
  unfolding run
  run_zero s room = refl

  pub run_idle : (k : ℕ) (s : Timed) (room : ℕ) → round c names s.follower ≡ idle → run c names k s room ≡ stopped Idle s
  unfolding run rest_status proceed
  run_idle zero s room e = rw e
  run_idle (suc k) s room e = rw e

  pub run_over : (k : ℕ) (s : Timed) (room : ℕ) → round c names s.follower ≡ over → run c names k s room ≡ stopped HasEnded s
  unfolding run rest_status proceed
  run_over zero s room e = rw e
  run_over (suc k) s room e = rw e

  pub run_refused : (k : ℕ) (s : Timed) (room : ℕ) (next : Follower) (es : List Effect) (a : Answer) →
      round c names s.follower ≡ did next es → refused_by room s next es ≡ some a → run c names (suc k) s room ≡ stopped (Refused a) s
  unfolding run proceed proceed_by unless_refused refused_by
  run_refused k s room next es a e q = rw (e, q)

  pub run_round : (k : ℕ) (s : Timed) (room : ℕ) (next : Follower) (es : List Effect) →
      round c names s.follower ≡ did next es → refused_by room s next es ≡ none → run c names (suc k) s room ≡ counted es (run c names k (next_of s next es) (room - length es))
  unfolding run proceed proceed_by unless_refused refused_by next_of
  run_round k s room next es e q = rw (e, q)

  -- the ways that a run of one round or more goes on
  pub run_cases {ℓ} : (P : Ran → Type ℓ) (k : ℕ) (s : Timed) (room : ℕ) →
      (round c names s.follower ≡ idle → P (stopped Idle s)) →
      (round c names s.follower ≡ over → P (stopped HasEnded s)) →
      ((next : Follower) (es : List Effect) (a : Answer) → round c names s.follower ≡ did next es → refused_by room s next es ≡ some a → P (stopped (Refused a) s)) →
      ((next : Follower) (es : List Effect) → round c names s.follower ≡ did next es → refused_by room s next es ≡ none → P (counted es (run c names k (next_of s next es) (room - length es)))) →
      P (run c names (suc k) s room)
  run_cases P k s room f g r n = go (round c names s.follower) refl
    where
      go : (o : Round) → round c names s.follower ≡ o → P (run c names (suc k) s room)
      go idle e = rw (run_idle (suc k) s room e) (f e)
      go over e = rw (run_over (suc k) s room e) (g e)
      go (did next es) e = inner (refused_by room s next es) refl
        where
          inner : (a : Option Answer) → refused_by room s next es ≡ a → P (run c names (suc k) s room)
          inner none q = rw (run_round k s room next es e q) (n next es e q)
          inner (some a) q = rw (run_refused k s room next es a e q) (r next es a e q)

  -- what every completed round keeps, a run keeps
  pub run-invariant {ℓ} : (P : Timed → Type ℓ) →
      ((s : Timed) (next : Follower) (es : List Effect) (room : ℕ) → P s → round c names s.follower ≡ did next es → refused_by room s next es ≡ none → P (next_of s next es)) →
      (k : ℕ) (s : Timed) (room : ℕ) → P s → P (run c names k s room).state
  unfolding stopped counted
  run-invariant P f zero s room h = rw (run_zero s room) h
  run-invariant P f (suc k) s room h =
      run_cases (λ r. P r.state) k s room (λ e. h) (λ e. h) (λ next es a e q. h)
      (λ next es e q. run-invariant P f k (next_of s next es) (room - length es) (f s next es room h e q))

  -- ---- counts: no more rounds than asked, no more effects than there is room

  pub run_rounds : (k : ℕ) (s : Timed) (room : ℕ) → (run c names k s room).rounds ≤ k
  unfolding stopped counted
  run_rounds zero s room = rw (run_zero s room) (omega arith)
  run_rounds (suc k) s room =
      run_cases (λ r. r.rounds ≤ suc k) k s room (λ e. omega arith) (λ e. omega arith) (λ next es a e q. omega arith)
      (λ next es e q. let h = run_rounds k (next_of s next es) (room - length es) in omega arith)

  pub run_room : (k : ℕ) (s : Timed) (room : ℕ) → length (run c names k s room).effects ≤ room
  unfolding stopped counted
  run_room zero s room = rw (run_zero s room) (omega arith)
  run_room (suc k) s room =
      run_cases (λ r. length r.effects ≤ room) k s room (λ e. omega arith) (λ e. omega arith) (λ next es a e q. omega arith)
      (λ next es e q.
      let h = run_room k (next_of s next es) (room - length es) in
      let l = (not_refused room next (table_in s.follower.mode names s.clock es).full es (unfold refused_by in q)).roomy in
      simp length-append (omega arith))

  -- ---- the status: more only when all rounds are done, a refusal only when one is missing

  pub run_more : (k : ℕ) (s : Timed) (room : ℕ) → (run c names k s room).status ≡ More → (run c names k s room).rounds ≡ k
  unfolding stopped counted
  run_more zero s room = rw (run_zero s room) (λ h. refl)
  run_more (suc k) s room =
      run_cases (λ r. r.status ≡ More → r.rounds ≡ suc k) k s room
      (λ e h. let z : ◌≡◌ {A = ℕ} 0 1 = cc in absurd (omega arith))
      (λ e h. let z : ◌≡◌ {A = ℕ} 0 1 = cc in absurd (omega arith))
      (λ next es a e q h. let z : ◌≡◌ {A = ℕ} 0 1 = cc in absurd (omega arith))
      (λ next es e q h. ap suc (run_more k (next_of s next es) (room - length es) h))

  rest_no_refusal : (r : Round) (a : Answer) → rest_status r ≡ Refused a → ⊥
  unfolding rest_status
  rest_no_refusal idle a h = let z : ◌≡◌ {A = ℕ} 0 1 = cc in omega arith
  rest_no_refusal over a h = let z : ◌≡◌ {A = ℕ} 0 1 = cc in omega arith
  rest_no_refusal (did next es) a h = let z : ◌≡◌ {A = ℕ} 0 1 = cc in omega arith

  -- a run of no rounds never refuses
  pub run_zero_no_refusal : (s : Timed) (room : ℕ) (a : Answer) → (run c names zero s room).status ≡ Refused a → ⊥
  unfolding stopped
  run_zero_no_refusal s room a = rw (run_zero s room) (rest_no_refusal (round c names s.follower) a)

  pub run_refusal : (k : ℕ) (s : Timed) (room : ℕ) (a : Answer) → (run c names k s room).status ≡ Refused a → (run c names k s room).rounds < k
  unfolding stopped counted
  run_refusal zero s room a = λ h. absurd (run_zero_no_refusal s room a h)
  run_refusal (suc k) s room a =
      run_cases (λ r. r.status ≡ Refused a → r.rounds < suc k) k s room (λ e h. omega arith) (λ e h. omega arith) (λ next es b e q h. omega arith)
      (λ next es e q h. let l = run_refusal k (next_of s next es) (room - length es) a h in omega arith)

  -- "Its status: (..) ended; else idle if running with nothing left to choose; else the refusal, if fewer were done than asked; else more": the
  -- status tells what the session that is handed back would do next, or the refusal of that round for the room left

  pub record RefusedRound (room : ℕ) (r : Ran) : Type 0 where
    pub answer : Answer
    pub next : Follower
    pub effects : List Effect
    pub would : round c names r.state.follower ≡ did next effects
    pub refuses : refused_by (room - length r.effects) r.state next effects ≡ some answer
    pub refused : r.status ≡ Refused answer

  pub run_status : (k : ℕ) (s : Timed) (room : ℕ) →
      ((run c names k s room).status ≡ rest_status (round c names (run c names k s room).state.follower)) ⊎ RefusedRound room (run c names k s room)
  unfolding stopped counted rest_status
  run_status zero s room = rw (run_zero s room) (inl refl)
  run_status (suc k) s room =
      run_cases (λ r. (r.status ≡ rest_status (round c names r.state.follower)) ⊎ RefusedRound room r) k s room (λ e. inl (rw e)) (λ e. inl (rw e))
      (λ next es a e q. let n : room - 0 ≡ room = omega arith in
      inr (record { answer = a; next = next; effects = es; would = e; refuses = rw n q; refused = refl }))
      (λ next es e q. ⊎_elim
      (λ (h : (run c names k (next_of s next es) (room - length es)).status ≡ rest_status (round c names (run c names k (next_of s next es) (room - length es)).state.follower)). inl h)
      (λ (r : RefusedRound (room - length es) (run c names k (next_of s next es) (room - length es))).
      let n : room - length (es ++ (run c names k (next_of s next es) (room - length es)).effects) ≡ room - length es - length (run c names k (next_of s next es) (room - length es)).effects = simp length-append (omega arith) in
      inr (record { answer = r.answer; next = r.next; effects = r.effects; would = r.would; refuses = rw n r.refuses; refused = r.refused }))
      (run_status k (next_of s next es) (room - length es)))

  -- ---- R-13, first part: a run of a rounds and then one of b, b at least 1, the room left handed on

  unfoldable pub joined : Ran → Ran → Ran
  joined r q = record { status = q.status; rounds = r.rounds + q.rounds; state = q.state; effects = r.effects ++ q.effects }

  unfoldable pub on_from : ℕ → Ran → ℕ → Ran
  on_from k r room = run c names k r.state (room - length r.effects)

  stopped_joined : (status : Status) (s : Timed) (k room : ℕ) → joined (stopped status s) (on_from k (stopped status s) room) ≡ run c names k s room
  unfolding joined on_from stopped
  stopped_joined status s k room =
      let e : room - 0 ≡ room = omega arith in
      rw (e, zero-add)

  counted_joined : (es : List Effect) (r q : Ran) → counted es (joined r q) ≡ joined (counted es r) q
  unfolding joined counted
  counted_joined es r q = rw (append_assoc, suc-add)

  counted_on_from : (es : List Effect) (r : Ran) (k room : ℕ) → on_from k (counted es r) room ≡ on_from k r (room - length es)
  unfolding on_from counted
  counted_on_from es r k room =
      let e : room - length (es ++ r.effects) ≡ room - length es - length r.effects = simp length-append (omega arith) in
      rw e

  split_stopped : (status : Status) (s : Timed) (k a b room : ℕ) → ((m : ℕ) → run c names (suc m) s room ≡ stopped status s) →
      run c names (suc k) s room ≡ joined (run c names (suc a) s room) (on_from (suc b) (run c names (suc a) s room) room)
  split_stopped status s k a b room e = e k ∙ rw (e a) (sym (stopped_joined status s (suc b) room ∙ e b))

  pub run_split : (a b : ℕ) (s : Timed) (room : ℕ) →
      run c names (a + suc b) s room ≡ joined (run c names a s room) (on_from (suc b) (run c names a s room) room)
  run_split zero b s room = rw (zero-add, run_zero s room) (sym (stopped_joined _ s (suc b) room))
  run_split (suc a) b s room = rw (suc-add) (go (round c names s.follower) refl (run_split a b))
    where
      go : (o : Round) → round c names s.follower ≡ o →
          ((next : Timed) (room : ℕ) → run c names (a + suc b) next room ≡ joined (run c names a next room) (on_from (suc b) (run c names a next room) room)) →
          run c names (suc (a + suc b)) s room ≡ joined (run c names (suc a) s room) (on_from (suc b) (run c names (suc a) s room) room)
      go idle e ih = split_stopped Idle s (a + suc b) a b room (λ m. run_idle (suc m) s room e)
      go over e ih = split_stopped HasEnded s (a + suc b) a b room (λ m. run_over (suc m) s room e)
      go (did next es) e ih = inner (refused_by room s next es) refl
        where
          inner : (o : Option Answer) → refused_by room s next es ≡ o →
              run c names (suc (a + suc b)) s room ≡ joined (run c names (suc a) s room) (on_from (suc b) (run c names (suc a) s room) room)
          inner none q =
              rw (run_round (a + suc b) s room next es e q, run_round a s room next es e q, ih (next_of s next es) (room - length es), counted_joined, counted_on_from)
          inner (some x) q = split_stopped (Refused x) s (a + suc b) a b room (λ m. run_refused m s room next es x e q)

  -- ---- no room that is left over matters: two runs that do not end with 10 are the same

  full_or : (f : Bool) (room room' : ℕ) (es : List Effect) → (refusal_if f (ltb room (length es)) ≡ some NoRoom → ⊥) → (refusal_if f (ltb room' (length es)) ≡ some NoRoom → ⊥) →
      refusal_if f (ltb room (length es)) ≡ refusal_if f (ltb room' (length es))
  unfolding refusal_if
  full_or true room room' es h k = refl
  full_or false room room' es h k = go (ltb room (length es)) (ltb room' (length es)) h k
    where
      go : (x y : Bool) → (refusal_if false x ≡ some NoRoom → ⊥) → (refusal_if false y ≡ some NoRoom → ⊥) → refusal_if false x ≡ refusal_if false y
      go true y h k = absurd (h refl)
      go false true h k = absurd (k refl)
      go false false h k = refl

  pub room_free : (k : ℕ) (s : Timed) (room room' : ℕ) → ((run c names k s room).status ≡ Refused NoRoom → ⊥) → ((run c names k s room').status ≡ Refused NoRoom → ⊥) →
      run c names k s room ≡ run c names k s room'
  unfolding stopped counted refused_by refusal
  room_free zero s room room' h g = rw (run_zero s room, run_zero s room')
  room_free (suc k) s room room' h g = go (round c names s.follower) refl (room_free k)
    where
      go : (o : Round) → round c names s.follower ≡ o →
          ((s : Timed) (room room' : ℕ) → ((run c names k s room).status ≡ Refused NoRoom → ⊥) → ((run c names k s room').status ≡ Refused NoRoom → ⊥) → run c names k s room ≡ run c names k s room') →
          run c names (suc k) s room ≡ run c names (suc k) s room'
      go idle e ih = run_idle (suc k) s room e ∙ sym (run_idle (suc k) s room' e)
      go over e ih = run_over (suc k) s room e ∙ sym (run_over (suc k) s room' e)
      go (did next es) e ih = inner (refused_by room s next es) (refused_by room' s next es) refl refl
        where
          same : (refused_by room s next es ≡ some NoRoom → ⊥) → (refused_by room' s next es ≡ some NoRoom → ⊥) → refused_by room s next es ≡ refused_by room' s next es
          same = full_or (ltb most_queued (length next.internal) || (table_in s.follower.mode names s.clock es).full) room room' es

          no_room : (x : ℕ) → ((run c names (suc k) s x).status ≡ Refused NoRoom → ⊥) → refused_by x s next es ≡ some NoRoom → ⊥
          no_room x n q = n (ap (λ (r : Ran). r.status) (run_refused k s x next es NoRoom e q))

          inner : (a b : Option Answer) → refused_by room s next es ≡ a → refused_by room' s next es ≡ b → run c names (suc k) s room ≡ run c names (suc k) s room'
          inner none none p q =
              run_round k s room next es e p ∙
              ap (counted es) (ih (next_of s next es) (room - length es) (room' - length es)
              (λ z. h (ap (λ (r : Ran). r.status) (run_round k s room next es e p) ∙ z)) (λ z. g (ap (λ (r : Ran). r.status) (run_round k s room' next es e q) ∙ z))) ∙
              sym (run_round k s room' next es e q)
          inner none (some b) p q = let z : none ≡ some b = sym p ∙ same (no_room room h) (no_room room' g) ∙ q in let w : ◌≡◌ {A = ℕ} 0 1 = cc in absurd (omega arith)
          inner (some a) none p q = let z : some a ≡ none = sym p ∙ same (no_room room h) (no_room room' g) ∙ q in let w : ◌≡◌ {A = ℕ} 0 1 = cc in absurd (omega arith)
          inner (some a) (some b) p q =
              let z : some a ≡ some b = sym p ∙ same (no_room room h) (no_room room' g) ∙ q in
              let w : a ≡ b = cc in
              run_refused k s room next es a e p ∙ ap (λ (x : Answer). stopped (Refused x) s) w ∙ sym (run_refused k s room' next es b e q)

  -- a run that is stopped by a refusal would be stopped by it in a longer one
  pub refused_again : (a b : ℕ) (s : Timed) (room : ℕ) (x : Answer) → (run c names a s room).status ≡ Refused x → (run c names (a + suc b) s room).status ≡ Refused x
  unfolding stopped counted rest_status
  refused_again zero b s room x h = absurd (rest (round c names s.follower) (rw (run_zero s room) at h))
    where
      rest : (o : Round) → rest_status o ≡ Refused x → ⊥
      rest idle h = let w : ◌≡◌ {A = ℕ} 0 1 = cc in omega arith
      rest over h = let w : ◌≡◌ {A = ℕ} 0 1 = cc in omega arith
      rest (did next es) h = let w : ◌≡◌ {A = ℕ} 0 1 = cc in omega arith
  refused_again (suc a) b s room x h = rw (suc-add) (go (round c names s.follower) refl (refused_again a b))
    where
      go : (o : Round) → round c names s.follower ≡ o → ((s : Timed) (room : ℕ) (x : Answer) → (run c names a s room).status ≡ Refused x → (run c names (a + suc b) s room).status ≡ Refused x) →
          (run c names (suc (a + suc b)) s room).status ≡ Refused x
      go idle e ih = ap (λ (r : Ran). r.status) (run_idle (suc (a + suc b)) s room e ∙ sym (run_idle (suc a) s room e)) ∙ h
      go over e ih = ap (λ (r : Ran). r.status) (run_over (suc (a + suc b)) s room e ∙ sym (run_over (suc a) s room e)) ∙ h
      go (did next es) e ih = inner (refused_by room s next es) refl
        where
          inner : (o : Option Answer) → refused_by room s next es ≡ o → (run c names (suc (a + suc b)) s room).status ≡ Refused x
          inner none q =
              ap (λ (r : Ran). r.status) (run_round (a + suc b) s room next es e q) ∙
              ih (next_of s next es) (room - length es) x (sym (ap (λ (r : Ran). r.status) (run_round a s room next es e q)) ∙ h)
          inner (some y) q = ap (λ (r : Ran). r.status) (run_refused (a + suc b) s room next es y e q ∙ sym (run_refused a s room next es y e q)) ∙ h

  -- R-13, first part, with a room for each of the three runs, none of which runs out
  pub cuts : (a b : ℕ) (s : Timed) (room room₁ room₂ : ℕ) → ((run c names (a + suc b) s room).status ≡ Refused NoRoom → ⊥) →
      ((run c names a s room₁).status ≡ Refused NoRoom → ⊥) → ((run c names (suc b) (run c names a s room₁).state room₂).status ≡ Refused NoRoom → ⊥) →
      run c names (a + suc b) s room ≡ joined (run c names a s room₁) (run c names (suc b) (run c names a s room₁).state room₂)
  unfolding joined on_from
  cuts a b s room room₁ room₂ h h₁ h₂ =
      let e : run c names a s room ≡ run c names a s room₁ = room_free a s room room₁ (λ z. h (refused_again a b s room NoRoom z)) h₁ in
      let f = run_split a b s room in
      let g : run c names (suc b) (run c names a s room).state (room - length (run c names a s room).effects) ≡ run c names (suc b) (run c names a s room).state room₂ =
      room_free (suc b) (run c names a s room).state (room - length (run c names a s room).effects) room₂ (λ z. h (ap (λ (r : Ran). r.status) f ∙ z)) (rw (← e) at h₂) in
      f ∙ ap (joined (run c names a s room)) g ∙ ap (λ (r : Ran). joined r (run c names (suc b) r.state room₂)) e
