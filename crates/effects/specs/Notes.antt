-- What a round's notes hold once it is worked out: its joins, and as many of its sends and cancels as the place reaches, from the first on that is not passed
-- over.
use Rattle.std.specs.Prelude.{◌≡◌, Bool, true, false, cond, ℕ, ◌+◌, ◌-◌, ◌*◌, ◌≤◌, ◌<◌, leb, ltb, length, get_or, take, drop, set}
use Rattle.std.proofs.Math.Path.{refl}
use Rattle.std.proofs.Common.{ap, sym, subst, ◌∙◌, arith, length-append, length-set, length-drop, length-take-le, get_or-set_same, get_or-set_other, get_or-take, get_or-drop, get_or-append-add, ext_get_or, ltb-true, ltb-false, leb-true, leb-false}
use mathlib.Core.List.{List, [], ◌∷◌, ◌++◌, append-nil, append_assoc}
use Rattle.std.proofs.Math.ListN.{get_or-append}
use Rattle.std.proofs.lemmas.List.{get_or_at}
use Rattle.definition.specs.Rows.{flat}
use Rattle.definition.specs.Tables.{no_number}
use Rattle.laws.specs.Bools.{eq_case}
use Rattle.follower.specs.Blocks.{Effect, exited, taken, entered, acted, raised, done, chosen, sent, cancelled, trace_no}
use Rattle.paths.specs.Timing.{timing, timers_of, times, all_times}
use Rattle.effects.specs.declared.Tally.{Tally}
use Rattle.effects.specs.Trace.{queues, all_queues, joining, joins_of, joins_length, tallied, tallies, join_at, skip_in, timer_at, note, notes, Places, Wrote, wrote_joins}

-- nothing counted yet
abbrev pub nothing : Tally
nothing = record { entries = 0; names = 0; timers = 0 }

timing_length : (e : Effect) → length (timing e) ≡ times e * 2
unfolding timing times
timing_length (exited i) = refl
timing_length (taken t) = refl
timing_length (entered i) = refl
timing_length (acted n) = refl
timing_length (raised n) = refl
timing_length (done i) = refl
timing_length (chosen i) = refl
timing_length (sent n delay id) = refl
timing_length (cancelled n) = refl

pub timers_length : (es : List Effect) → length (timers_of es) ≡ all_times es * 2
unfolding timers_of all_times flat
timers_length [] = refl
timers_length (e ∷ es) = let h : length (flat timing es) ≡ all_times es * 2 = timers_length es in let k = timing_length e in let l = length-append (timing e) (flat timing es) in omega arith

-- a cell of a place where one was set
set_hit : (l : List ℕ) (i j a : ℕ) → i ≡ j → i < length l → get_or (set l i a) j 0 ≡ a
set_hit l i j a e h = ap (λ (m : ℕ). get_or (set l i a) m 0) (sym e) ∙ get_or-set_same l i a 0 h

-- a place that holds what joins, xs, and of what was sent and cancelled, ys, all but the first s, as far as it reaches
record Noted (s : ℕ) (place xs ys : List ℕ) (t : Tally) : Type 0 where
  skip : skip_in place ≡ s
  joined : length xs ≡ t.names
  timed : length ys ≡ t.timers * 2
  size : 33 ≤ length place
  joins : (j : ℕ) → j < length xs → j < 32 → get_or place j 0 ≡ get_or xs j 0
  timers : (j : ℕ) → s * 2 + j < length ys → 33 + j < length place → get_or place (33 + j) 0 ≡ get_or ys (s * 2 + j) 0

module _ (s : ℕ) (place xs ys : List ℕ) (t r : Tally) (p : Noted s place xs ys t) where
  noted_plain : r.names ≡ t.names → r.timers ≡ t.timers → Noted s place xs ys r
  noted_plain n m =
      let a = p.joined in
      let b = p.timed in
      record { skip = p.skip; joined = omega arith; timed = omega arith; size = p.size; joins = p.joins; timers = p.timers }

  module _ (x : ℕ) (n : r.names ≡ t.names + 1) (m : r.timers ≡ t.timers) where
    one_longer : length (xs ++ (x ∷ [])) ≡ length xs + 1
    one_longer = length-append xs (x ∷ [])

    joins_more : (b : Bool) → ltb t.names 32 ≡ b → (j : ℕ) → j < length (xs ++ (x ∷ [])) → j < 32 → get_or (cond b (set place t.names x) place) j 0 ≡ get_or (xs ++ (x ∷ [])) j 0
    joins_more true h j l k =
        let a = p.joined in
        let d = one_longer in
        let z = p.size in
        eq_case j t.names
        (λ e. set_hit place t.names j x (sym e) (omega arith) ∙ sym (get_or_at xs x [] 0 j (omega arith)))
        (λ e. get_or-set_other place t.names j x 0 e ∙ p.joins j (omega (arith, e)) k ∙ sym (get_or-append xs (x ∷ []) 0 j (omega (arith, e))))
    joins_more false h j l k =
        let a = p.joined in
        let f : 32 ≤ t.names = ltb-false t.names 32 h in
        p.joins j (omega arith) k ∙ sym (get_or-append xs (x ∷ []) 0 j (omega arith))

    join_case : (b : Bool) → ltb t.names 32 ≡ b → Noted s (cond b (set place t.names x) place) (xs ++ (x ∷ [])) ys r
    join_case true h =
        let a = p.joined in
        let d = one_longer in
        let u = p.timed in
        let z = p.size in
        let f : t.names < 32 = ltb-true t.names 32 h in
        let g = length-set place t.names x in
        record {
          skip = get_or-set_other place t.names 32 x 0 (λ e. omega arith) ∙ p.skip;
          joined = omega arith;
          timed = omega arith;
          size = omega arith;
          joins = joins_more true h;
          timers = λ j l k. get_or-set_other place t.names (33 + j) x 0 (λ e. omega arith) ∙ p.timers j l (omega arith);
        }
    join_case false h =
        let a = p.joined in
        let d = one_longer in
        let u = p.timed in
        record { skip = p.skip; joined = omega arith; timed = omega arith; size = p.size; joins = joins_more false h; timers = p.timers }

    noted_join : Noted s (join_at place t.names x) (xs ++ (x ∷ [])) ys r
    unfolding join_at
    noted_join = join_case (ltb t.names 32) refl

  module _ (a b : ℕ) (n : r.names ≡ t.names) (m : r.timers ≡ t.timers + 1) where
    two_longer : length (ys ++ (a ∷ b ∷ [])) ≡ length ys + 2
    two_longer = length-append ys (a ∷ b ∷ [])

    -- where the two stand
    module _ (i : ℕ) (at : i ≡ 33 + (t.timers - skip_in place) * 2) (low : skip_in place ≤ t.timers) where
      timers_more : (j : ℕ) → s * 2 + j < length (ys ++ (a ∷ b ∷ [])) → 33 + j < length place → get_or (set (set place i a) (i + 1) b) (33 + j) 0 ≡ get_or (ys ++ (a ∷ b ∷ [])) (s * 2 + j) 0
      timers_more j l k =
          let d = two_longer in
          let u = p.timed in
          let e = p.skip in
          let g = length-set place i a in
          eq_case (33 + j) i
          (λ q.
          get_or-set_other (set place i a) (i + 1) (33 + j) b 0 (λ z. omega arith) ∙ set_hit place i (33 + j) a (sym q) (omega arith) ∙
          sym (get_or_at ys a (b ∷ []) 0 (s * 2 + j) (omega arith)))
          (λ q. eq_case (33 + j) (i + 1)
          (λ v.
          let y : length ys + 1 ≡ s * 2 + j = omega arith in
          set_hit (set place i a) (i + 1) (33 + j) b (sym v) (omega arith) ∙ sym (ap (λ (c : ℕ). get_or (ys ++ (a ∷ b ∷ [])) c 0) (sym y) ∙ get_or-append-add ys (a ∷ b ∷ []) 1 0))
          (λ v.
          let c : 33 + j < i = omega (arith, q, v) in
          get_or-set_other (set place i a) (i + 1) (33 + j) b 0 v ∙ get_or-set_other place i (33 + j) a 0 q ∙ p.timers j (omega arith) k ∙
          sym (get_or-append ys (a ∷ b ∷ []) 0 (s * 2 + j) (omega arith))))

      timer_written : Noted s (set (set place i a) (i + 1) b) xs (ys ++ (a ∷ b ∷ [])) r
      timer_written =
          let d = two_longer in
          let o = p.joined in
          let u = p.timed in
          let z = p.size in
          let g = length-set (set place i a) (i + 1) b ∙ length-set place i a in
          record {
            skip = get_or-set_other (set place i a) (i + 1) 32 b 0 (λ e. omega arith) ∙ get_or-set_other place i 32 a 0 (λ e. omega arith) ∙ p.skip;
            joined = omega arith;
            timed = omega arith;
            size = omega arith;
            joins = λ j l k. get_or-set_other (set place i a) (i + 1) j b 0 (λ e. omega arith) ∙ get_or-set_other place i j a 0 (λ e. omega arith) ∙ p.joins j l k;
            timers = λ j l k. timers_more j l (omega arith);
          }

    timer_case : (h : Bool) → leb (skip_in place) t.timers ≡ h →
        Noted s (cond h (set (set place (33 + (t.timers - skip_in place) * 2) a) (34 + (t.timers - skip_in place) * 2) b) place) xs (ys ++ (a ∷ b ∷ [])) r
    timer_case true h =
        let z : 33 + (t.timers - skip_in place) * 2 + 1 ≡ 34 + (t.timers - skip_in place) * 2 = omega arith in
        subst (λ (k : ℕ). Noted s (set (set place (33 + (t.timers - skip_in place) * 2) a) k b) xs (ys ++ (a ∷ b ∷ [])) r) z
        (timer_written (33 + (t.timers - skip_in place) * 2) refl (leb-true _ _ h))
    timer_case false h =
        let d = two_longer in
        let o = p.joined in
        let u = p.timed in
        let e = p.skip in
        let f : t.timers < skip_in place = leb-false _ _ h in
        record { skip = p.skip; joined = omega arith; timed = omega arith; size = p.size; joins = p.joins; timers = λ j l k. absurd (omega arith) }

    noted_timer : Noted s (timer_at place t.timers a b) xs (ys ++ (a ∷ b ∷ [])) r
    unfolding timer_at
    noted_timer = timer_case (leb (skip_in place) t.timers) refl

module _ (s : ℕ) (place xs ys : List ℕ) (t : Tally) (p : Noted s place xs ys t) where
  step_plain : (e : Effect) → queues e ≡ 0 → times e ≡ 0 → Noted s place (xs ++ []) (ys ++ []) (tallied t e)
  unfolding tallied
  step_plain e h g = rw (append-nil xs, append-nil ys) (noted_plain s place xs ys t (tallied t e) p (omega arith) (omega arith))

  noted_step : (e : Effect) → Noted s (note place t e) (xs ++ joining e) (ys ++ timing e) (tallied t e)
  unfolding note joining timing tallied queues times
  noted_step (exited i) = step_plain (exited i) refl refl
  noted_step (taken u) = step_plain (taken u) refl refl
  noted_step (entered i) = step_plain (entered i) refl refl
  noted_step (acted n) = step_plain (acted n) refl refl
  noted_step (raised n) = rw (append-nil ys) (noted_join s place xs ys t (tallied t (raised n)) p (trace_no (raised n)) refl (omega arith))
  noted_step (done i) = rw (append-nil ys) (noted_join s place xs ys t (tallied t (done i)) p (trace_no (done i)) refl (omega arith))
  noted_step (chosen i) = step_plain (chosen i) refl refl
  noted_step (sent n delay id) = rw (append-nil xs) (noted_timer s place xs ys t (tallied t (sent n delay id)) p (n * 65536 + id) delay (omega arith) refl)
  noted_step (cancelled n) = rw (append-nil xs) (noted_timer s place xs ys t (tallied t (cancelled n)) p (no_number * 65536 + n) 0 (omega arith) refl)

noted_all : (s : ℕ) (place xs ys : List ℕ) (t : Tally) (es : List Effect) → Noted s place xs ys t → Noted s (notes place t es) (xs ++ joins_of es) (ys ++ timers_of es) (tallies t es)
unfolding notes tallies joins_of timers_of flat
noted_all s place xs ys t [] p = rw (append-nil xs, append-nil ys) p
noted_all s place xs ys t (e ∷ es) p =
    rw (← append_assoc xs (joining e) (flat joining es), ← append_assoc ys (timing e) (flat timing es))
    (noted_all s (note place t e) (xs ++ joining e) (ys ++ timing e) (tallied t e) es (noted_step s place xs ys t p e))

noted_begin : (place : List ℕ) → 33 ≤ length place → Noted (skip_in place) place [] [] nothing
noted_begin place l = record { skip = refl; joined = refl; timed = refl; size = l; joins = λ j a b. absurd (omega arith); timers = λ j a b. absurd (omega arith) }

-- what was written from nothing on
module _ (old new : Places) (r : Tally) (es : List Effect) (w : Wrote old new nothing r es) (size : 33 ≤ length old.joins) where
  whole : Noted (skip_in old.joins) new.joins (joins_of es) (timers_of es) (tallies nothing es)
  whole =
      subst (λ (place : List ℕ). Noted (skip_in old.joins) place (joins_of es) (timers_of es) (tallies nothing es)) (sym w.joins)
      (noted_all (skip_in old.joins) old.joins [] [] nothing es (noted_begin old.joins size))

  pub notes_length : length new.joins ≡ length old.joins
  notes_length = wrote_joins old new nothing r es w

  pub skip_kept : skip_in new.joins ≡ skip_in old.joins
  skip_kept = whole.skip

  -- all the joins, where the queue could take them
  pub joins_noted : all_queues es ≤ 32 → take (all_queues es) new.joins ≡ joins_of es
  joins_noted few =
      let n = joins_length es in
      let z = whole.size in
      let l = length-take-le (all_queues es) new.joins (omega arith) in
      ext_get_or 0 (take (all_queues es) new.joins) (joins_of es) (omega arith)
      (λ i m. get_or-take (all_queues es) new.joins i 0 (omega arith) ∙ whole.joins i (omega arith) (omega arith))

  -- as many of the sends and cancels as the place reaches
  pub window_noted : (k : ℕ) → skip_in old.joins + k ≤ all_times es → 33 + k * 2 ≤ length old.joins →
      take (k * 2) (drop 33 new.joins) ≡ take (k * 2) (drop (skip_in old.joins * 2) (timers_of es))
  window_noted k few fits =
      let n = timers_length es in
      let z = notes_length in
      let c = length-drop 33 new.joins in
      let d = length-drop (skip_in old.joins * 2) (timers_of es) in
      let a = length-take-le (k * 2) (drop 33 new.joins) (omega arith) in
      let b = length-take-le (k * 2) (drop (skip_in old.joins * 2) (timers_of es)) (omega arith) in
      ext_get_or 0 (take (k * 2) (drop 33 new.joins)) (take (k * 2) (drop (skip_in old.joins * 2) (timers_of es))) (omega arith)
      (λ i m.
      get_or-take (k * 2) (drop 33 new.joins) i 0 (omega arith) ∙ get_or-drop 33 new.joins i 0 ∙ whole.timers i (omega arith) (omega arith) ∙
      sym (get_or-take (k * 2) (drop (skip_in old.joins * 2) (timers_of es)) i 0 (omega arith) ∙ get_or-drop (skip_in old.joins * 2) (timers_of es) i 0))
