-- The sends and cancels of a round, applied to the clock record window after window, leave the table that its effects leave (R-9).
use Rattle.std.specs.Prelude.{◌≡◌, refl, Bool, true, ◌&&◌, ◌||◌, ℕ, ◌+◌, ◌-◌, ◌*◌, ◌/◌, ◌%◌, ◌≤◌, ◌<◌, eqb, leb, ltb, length, take, drop}
use Rattle.std.proofs.Math.Path.{sym, ap}
use Rattle.std.proofs.Common.{◌∙◌, arith, take-append-drop, take-add, take_all, length-take-le, ltb-true, leb-true, ne_eqb}
use Rattle.std.proofs.Math.Bool.{false}
use mathlib.Core.List.{List, [], ◌∷◌, ◌++◌}
use Rattle.std.proofs.Math.ListN.{length-append}
use Rattle.definition.specs.declared.Mode.TheVariants.{Running}
use Rattle.definition.specs.Rows.{all, is_empty, flat}
use Rattle.definition.specs.Names.{is_name}
use Rattle.definition.specs.Tables.{no_number, most_delay, name_at}
use Rattle.follower.specs.Blocks.{Effect, exited, taken, entered, acted, raised, done, chosen, sent, cancelled}
use Rattle.follower.specs.Clock.{Clock, Table, id_of, table_after, table_step}
use Rattle.follower.specs.Follower.{table_in}
use Rattle.laws.specs.Bools.{and_left, and_right, and_true, and3, bool_case, or_right}
use Rattle.theory.specs.Queues.{sends_well}
use Rattle.theory.specs.Timers.{Timely, table_timely}
use Rattle.paths.specs.Timing.{timing, timers_of, times, all_times, timer_of, effects_in}
use Rattle.clock.specs.Records.{clock_bytes, clock_in, ClockHolds, is_slot, timer_known, Applied}
use Rattle.clock.specs.Spelled.{fits_ticks, fits_few, fits_timers, clock_again}
use Rattle.events.specs.Timers.{TimersStand}
use Rattle.clock.specs.Tabled.{table_append, table_full, effects_append, numbered, table_timers, pending_fits}

-- the table that the effects of a running session's round leave of the record in these bytes, and the record then
abbrev pub table_left : List ℕ → List ℕ → List Effect → Table
table_left names clock es = table_in Running (name_at names) (clock_in clock) es

abbrev pub clock_left : List ℕ → List ℕ → List Effect → Clock
clock_left names clock es = record { ticks = (clock_in clock).ticks; pending = (table_left names clock es).pending }

-- ---- a round without sends and cancels leaves the table as it is

step_none : (names : List ℕ) (ticks : ℕ) (t : Table) (e : Effect) → times e ≡ 0 → table_step (name_at names) ticks t e ≡ t
unfolding table_step times
step_none names ticks t (exited i) h = refl
step_none names ticks t (taken i) h = refl
step_none names ticks t (entered i) h = refl
step_none names ticks t (acted n) h = refl
step_none names ticks t (raised n) h = refl
step_none names ticks t (done i) h = refl
step_none names ticks t (chosen i) h = refl
step_none names ticks t (sent n delay id) h = absurd (omega arith)
step_none names ticks t (cancelled n) h = absurd (omega arith)

after_none : (names : List ℕ) (ticks : ℕ) (t : Table) (es : List Effect) → all_times es ≡ 0 → table_after (name_at names) ticks t es ≡ t
unfolding table_after all_times
after_none names ticks t [] h = refl
after_none names ticks t (e ∷ es) h = rw (step_none names ticks t e (omega arith)) (after_none names ticks t es (omega arith))

pub table_none : (names clock : List ℕ) (es : List Effect) → all_times es ≡ 0 → table_left names clock es ≡ record { pending = (clock_in clock).pending; full = false }
unfolding table_in
table_none names clock es h = after_none names (clock_in clock).ticks (record { pending = (clock_in clock).pending; full = false }) es h

-- ---- what is noted of a send or a cancel is that effect

sent_again : (n delay id : ℕ) → n < 65535 → id ≤ 65535 → timer_of (n * 65536 + id) delay ≡ sent n delay id
unfolding timer_of
sent_again n delay id l m =
    let a : (n * 65536 + id) / 65536 ≡ n = omega arith in
    let b : (n * 65536 + id) % 65536 ≡ id = omega arith in
    rw (a, b, ne_eqb n 65535 (omega arith))

cancelled_again : (n : ℕ) → n < 65535 → timer_of (no_number * 65536 + n) 0 ≡ cancelled n
unfolding timer_of
cancelled_again n l =
    let a : (no_number * 65536 + n) / 65536 ≡ 65535 = omega arith in
    let b : (no_number * 65536 + n) % 65536 ≡ n = omega arith in
    rw (a, b)

-- what every effect passes, those that are noted pass
noted_pass : (p : Effect → Bool) (es : List Effect) → all numbered es ≡ true → all p es ≡ true → all p (effects_in (timers_of es)) ≡ true
unfolding all numbered timers_of flat timing effects_in
noted_pass p [] h k = refl
noted_pass p (exited i ∷ es) h k = unfold timers_of in noted_pass p es h (and_right (p (exited i)) _ k)
noted_pass p (taken i ∷ es) h k = unfold timers_of in noted_pass p es h (and_right (p (taken i)) _ k)
noted_pass p (entered i ∷ es) h k = unfold timers_of in noted_pass p es h (and_right (p (entered i)) _ k)
noted_pass p (acted n ∷ es) h k = unfold timers_of in noted_pass p es h (and_right (p (acted n)) _ k)
noted_pass p (raised n ∷ es) h k = unfold timers_of in noted_pass p es h (and_right (p (raised n)) _ k)
noted_pass p (done i ∷ es) h k = unfold timers_of in noted_pass p es h (and_right (p (done i)) _ k)
noted_pass p (chosen i ∷ es) h k = unfold timers_of in noted_pass p es h (and_right (p (chosen i)) _ k)
noted_pass p (sent n delay id ∷ es) h k =
    let g : (ltb n no_number && leb id no_number) ≡ true = and_left (ltb n no_number && leb id no_number) _ h in
    let e = sent_again n delay id (ltb-true _ _ (and_left (ltb n no_number) _ g)) (leb-true _ _ (and_right (ltb n no_number) _ g)) in
    rw e (and_true (p (sent n delay id)) _ (and_left (p (sent n delay id)) _ k) (noted_pass p es (and_right (ltb n no_number && leb id no_number) _ h) (and_right (p (sent n delay id)) _ k)))
noted_pass p (cancelled n ∷ es) h k =
    let e = cancelled_again n (ltb-true _ _ (and_left (ltb n no_number) _ h)) in
    rw e (and_true (p (cancelled n)) _ (and_left (p (cancelled n)) _ k) (noted_pass p es (and_right (ltb n no_number) _ h) (and_right (p (cancelled n)) _ k)))

timing_length : (e : Effect) → length (timing e) ≡ times e * 2
unfolding timing times
timing_length (exited i) = refl
timing_length (taken t) = refl
timing_length (entered i) = refl
timing_length (acted n) = refl
timing_length (raised n) = refl
timing_length (done i) = refl
timing_length (chosen i) = refl
timing_length (sent n delay id) = refl
timing_length (cancelled n) = refl

timers_length : (es : List Effect) → length (timers_of es) ≡ all_times es * 2
unfolding timers_of flat all_times
timers_length [] = refl
timers_length (e ∷ es) =
    let h : length (flat timing es) ≡ all_times es * 2 = unfold timers_of in timers_length es in
    let k = timing_length e in
    omega (arith, length-append (timing e) (flat timing es))

-- ---- windows

all_left : (p : Effect → Bool) (xs ys : List Effect) → all p (xs ++ ys) ≡ true → all p xs ≡ true
unfolding all
all_left p [] ys h = refl
all_left p (x ∷ xs) ys h = and_true (p x) _ (and_left (p x) _ h) (all_left p xs ys (and_right (p x) _ h))

all_right : (p : Effect → Bool) (xs ys : List Effect) → all p (xs ++ ys) ≡ true → all p ys ≡ true
unfolding all
all_right p [] ys h = h
all_right p (x ∷ xs) ys h = all_right p xs ys (and_right (p x) _ h)

module _ (xs : List ℕ) (k : ℕ) (l : k * 2 ≤ length xs) where
  cut : effects_in xs ≡ effects_in (take (k * 2) xs) ++ effects_in (drop (k * 2) xs)
  cut = ap effects_in (sym (take-append-drop (k * 2) xs)) ∙ effects_append k (take (k * 2) xs) (drop (k * 2) xs) (length-take-le (k * 2) xs l)

  more : (n : ℕ) → effects_in (take ((k + n) * 2) xs) ≡ effects_in (take (k * 2) xs) ++ effects_in (take (n * 2) (drop (k * 2) xs))
  more n =
      let e : (k + n) * 2 ≡ k * 2 + n * 2 = omega arith in
      ap (λ (m : ℕ). effects_in (take m xs)) e ∙ ap effects_in (take-add (k * 2) (n * 2) xs) ∙
      effects_append k (take (k * 2) xs) (take (n * 2) (drop (k * 2) xs)) (length-take-le (k * 2) xs l)

  front_pass : (p : Effect → Bool) → all p (effects_in xs) ≡ true → all p (effects_in (take (k * 2) xs)) ≡ true
  front_pass p h = all_left p (effects_in (take (k * 2) xs)) (effects_in (drop (k * 2) xs)) (sym (ap (all p) cut) ∙ h)

window_pass : (p : Effect → Bool) (xs : List ℕ) (k n : ℕ) → (k + n) * 2 ≤ length xs → all p (effects_in xs) ≡ true → all p (effects_in (take (n * 2) (drop (k * 2) xs))) ≡ true
window_pass p xs k n l h =
    let m : k * 2 ≤ length xs = omega arith in
    all_right p (effects_in (take (k * 2) xs)) _ (sym (ap (all p) (more xs k m n)) ∙ front_pass xs (k + n) l p h)

-- ---- the record on the way

known_sends : (names : List ℕ) (e : Effect) → timer_known names e ≡ true → sends_well (name_at names) e ≡ true
unfolding timer_known sends_well is_slot id_of is_empty
known_sends names (exited i) h = refl
known_sends names (taken t) h = refl
known_sends names (entered i) h = refl
known_sends names (acted n) h = refl
known_sends names (raised n) h = refl
known_sends names (done i) h = refl
known_sends names (chosen i) h = refl
known_sends names (cancelled n) h = refl
known_sends names (sent n delay id) h =
    let p = and3 (is_slot names n) (leb delay most_delay) (eqb id no_number || is_slot names id) h in
    and_true (is_name (name_at names n) && leb delay most_delay) _ (and_true (is_name (name_at names n)) _ (and_right (leb (n * 64 + 64) (length names)) _ p.0) p.1)
    (bool_case (eqb id no_number) (λ e. rw e) (λ e. rw e (or_right (is_empty (name_at names id)) _ (and_right (leb (id * 64 + 64) (length names)) _ (rw e at p.2)))))

all_sends : (names : List ℕ) (es : List Effect) → all (timer_known names) es ≡ true → all (sends_well (name_at names)) es ≡ true
unfolding all
all_sends names [] h = refl
all_sends names (e ∷ es) h = and_true (sends_well (name_at names) e) _ (known_sends names e (and_left (timer_known names e) _ h)) (all_sends names es (and_right (timer_known names e) _ h))

-- the table once the first k of them are applied
unfoldable pub table_to : List ℕ → List ℕ → List Effect → ℕ → Table
table_to names clock es k =
    table_after (name_at names) (clock_in clock).ticks (record { pending = (clock_in clock).pending; full = false }) (effects_in (take (k * 2) (timers_of es)))

abbrev pub clock_to : List ℕ → List ℕ → List Effect → ℕ → Clock
clock_to names clock es k = record { ticks = (clock_in clock).ticks; pending = (table_to names clock es k).pending }

-- so many are applied, and each found a place: first is the record before the round
pub record Reaches (names : List ℕ) (es : List Effect) (first clock : List ℕ) (k : ℕ) : Type 0 where
  pub low : k ≤ all_times es
  pub spare : (table_to names first es k).full ≡ false
  pub is : clock ≡ clock_bytes (clock_to names first es k)
  pub holds : ClockHolds Running clock

-- the same, whatever the record before the round, where start was the record once the first k were applied
pub record ReachesOn (names : List ℕ) (es : List Effect) (start clock : List ℕ) (k n : ℕ) : Type 0 where
  pub on : (first : List ℕ) → ClockHolds Running first → Reaches names es first start k → Reaches names es first clock n

module _ (names : List ℕ) (es : List Effect) (s : TimersStand names es) (first : List ℕ) (h : ClockHolds Running first) where
  all_known : all (timer_known names) (effects_in (timers_of es)) ≡ true
  all_known = noted_pass (timer_known names) es s.small s.known

  pub reaches_none : Reaches names es first first 0
  unfolding table_to table_after effects_in
  reaches_none = record { low = omega arith; spare = refl; is = h.spells; holds = h }

  all_is : table_to names first es (all_times es) ≡ table_left names first es
  unfolding table_to table_in
  all_is =
      let e = timers_length es in
      ap (λ (xs : List ℕ). table_after (name_at names) (clock_in first).ticks (record { pending = (clock_in first).pending; full = false }) (effects_in xs)) (take_all (all_times es * 2) (timers_of es) (omega arith)) ∙
      sym (table_timers (name_at names) (clock_in first).ticks (record { pending = (clock_in first).pending; full = false }) es s.small)

  -- the next n
  table_on : (k n : ℕ) → k * 2 ≤ length (timers_of es) →
      table_to names first es (k + n) ≡ table_after (name_at names) (clock_in first).ticks (table_to names first es k) (effects_in (take (n * 2) (drop (k * 2) (timers_of es))))
  unfolding table_to
  table_on k n l =
      ap (table_after (name_at names) (clock_in first).ticks (record { pending = (clock_in first).pending; full = false })) (more (timers_of es) k l n) ∙
      table_append (name_at names) (clock_in first).ticks (record { pending = (clock_in first).pending; full = false }) (effects_in (take (k * 2) (timers_of es))) (effects_in (take (n * 2) (drop (k * 2) (timers_of es))))

  module _ (clock : List ℕ) (k : ℕ) (r : Reaches names es first clock k) where
    inside : k * 2 ≤ length (timers_of es)
    inside = let e = timers_length es in let l = r.low in omega arith

    timely : Timely (clock_in first).ticks (table_to names first es k).pending
    unfolding table_to
    timely =
        table_timely (name_at names) (clock_in first).ticks (record { pending = (clock_in first).pending; full = false }) (effects_in (take (k * 2) (timers_of es)))
        (all_sends names (effects_in (take (k * 2) (timers_of es))) (front_pass (timers_of es) k inside (timer_known names) all_known))
        (record { few = fits_few Running (clock_in first) h.fits; fit = fits_timers Running (clock_in first) h.fits })

    -- what is read of the record
    reads : clock_in clock ≡ clock_to names first es k
    reads =
        ap clock_in r.is ∙
        clock_again Running (clock_to names first es k)
        (pending_fits (clock_in first).ticks (table_to names first es k).pending (fits_ticks Running (clock_in first) h.fits) (record { few = timely.few; timers = timely.fit }))

    -- all are applied
    pub reaches_all : all_times es ≤ k → ((table_left names first es).full ≡ false) × (clock ≡ clock_bytes (clock_left names first es))
    reaches_all l =
        let e : k ≡ all_times es = let m = r.low in omega arith in
        let t : table_to names first es k ≡ table_left names first es = ap (table_to names first es) e ∙ all_is in
        (sym (ap (λ (x : Table). x.full) t) ∙ r.spare, r.is ∙ ap (λ (x : Table). clock_bytes (record { ticks = (clock_in first).ticks; pending = x.pending })) t)

    module _ (n : ℕ) (l : k + n ≤ all_times es) (window : List ℕ) (w : window ≡ take (n * 2) (drop (k * 2) (timers_of es))) where
      pub window_known : all (timer_known names) (effects_in window) ≡ true
      window_known = let e = timers_length es in rw w (window_pass (timer_known names) (timers_of es) k n (omega arith) all_known)

      by_window : table_after (name_at names) (clock_in clock).ticks (record { pending = (clock_in clock).pending; full = false }) (effects_in window) ≡ table_to names first es (k + n)
      by_window =
          rw (reads, w) (ap (λ (b : Bool). table_after (name_at names) (clock_in first).ticks (record { pending = (table_to names first es k).pending; full = b }) (effects_in (take (n * 2) (drop (k * 2) (timers_of es))))) (sym r.spare) ∙
          sym (table_on k n inside))

      module _ (new : List ℕ) (b : Bool) (a : Applied names window clock new b) where
        full_is : b ≡ (table_to names first es (k + n)).full
        full_is = a.full ∙ ap (λ (t : Table). t.full) by_window

        -- one found no place
        pub reaches_full : b ≡ true → (table_left names first es).full ≡ true
        reaches_full e =
            let rest : ℕ = all_times es - (k + n) in
            let m : k + n + rest ≡ all_times es = omega arith in
            let i : (k + n) * 2 ≤ length (timers_of es) = let q = timers_length es in omega arith in
            ap (λ (t : Table). t.full) (sym all_is ∙ ap (table_to names first es) (sym m) ∙ table_on (k + n) rest i) ∙
            table_full (name_at names) (clock_in first).ticks (table_to names first es (k + n)) (effects_in (take (rest * 2) (drop ((k + n) * 2) (timers_of es)))) (sym full_is ∙ e)

        pub reaches_next : b ≡ false → Reaches names es first new (k + n)
        reaches_next e = record {
          low = l;
          spare = sym full_is ∙ e;
          is = let q = reads in let t = by_window in a.left e ∙ (λ i. clock_bytes (record { ticks = (q i).ticks; pending = (t i).pending }));
          holds = a.holds e;
        }
