-- The table of pending sends: window after window, from what a round has noted, and always well formed.
use Rattle.std.specs.Prelude.{◌≡◌, Bool, ◌&&◌, ◌||◌, cond, ℕ, zero, suc, ◌+◌, ◌-◌, ◌*◌, ◌/◌, ◌%◌, ◌≤◌, ◌<◌, eqb, ltb, length}
use Rattle.std.proofs.Math.Path.{refl}
use Rattle.std.proofs.Common.{ap, arith, length-append, leb-true, le-leb, ltb-true, ne_eqb}
use Rattle.std.proofs.Math.Bool.{true, false}
use mathlib.Core.List.{List, [], ◌∷◌, ◌++◌}
use Rattle.std.proofs.Math.Dec.{leb}
use Rattle.definition.specs.declared.Mode.TheVariants.{Running}
use Rattle.definition.specs.Rows.{all, is_empty, same, flat}
use Rattle.definition.specs.Names.{Name}
use Rattle.definition.specs.Chart.{Names}
use Rattle.definition.specs.Tables.{no_number, most_delay, name_at}
use Rattle.follower.specs.Blocks.{Effect, exited, taken, entered, acted, raised, done, chosen, sent, cancelled}
use Rattle.follower.specs.Clock.{Timer, Table, most_pending, most_ticks, id_of, send_of, with_send, without, without_at, table_step, table_after}
use Rattle.follower.specs.Follower.{is_ended}
use Rattle.follower.specs.Legal.{timer_fits, clock_fits}
use Rattle.laws.specs.Bools.{and_left, and_right, and_true, and3, bool_case, or_right}
use Rattle.laws.specs.Lists.{all_both}
use Rattle.paths.specs.Timing.{timing, timers_of, timer_of, effects_in}
use Rattle.clock.specs.Records.{is_slot, timer_known}

-- ---- one list of effects behind another

module _ (names : Names) (ticks : ℕ) where
  pub table_append : (t : Table) (xs ys : List Effect) → table_after names ticks t (xs ++ ys) ≡ table_after names ticks (table_after names ticks t xs) ys
  unfolding table_after
  table_append t [] ys = refl
  table_append t (e ∷ xs) ys = table_append (table_step names ticks t e) xs ys

  -- once full, always full
  send_full : (t : Table) (s : Timer) → t.full ≡ true → (with_send t s).full ≡ true
  unfolding with_send
  send_full t s h = go (leb most_pending (length t.pending))
    where
      go : (b : Bool) → (cond {A = Table} b (record { pending = t.pending; full = true }) (record { pending = t.pending ++ (s ∷ []); full = t.full })).full ≡ true
      go true = refl
      go false = h

  step_full : (t : Table) (e : Effect) → t.full ≡ true → (table_step names ticks t e).full ≡ true
  unfolding table_step
  step_full t (exited i) h = h
  step_full t (taken i) h = h
  step_full t (entered i) h = h
  step_full t (acted n) h = h
  step_full t (raised n) h = h
  step_full t (done i) h = h
  step_full t (chosen i) h = h
  step_full t (sent n delay id) h = send_full t (send_of names ticks n delay id) h
  step_full t (cancelled n) h = h

  pub table_full : (t : Table) (es : List Effect) → t.full ≡ true → (table_after names ticks t es).full ≡ true
  unfolding table_after
  table_full t [] h = h
  table_full t (e ∷ es) h = table_full (table_step names ticks t e) es (step_full t e h)

-- two numbers each
pub effects_append : (k : ℕ) (xs ys : List ℕ) → length xs ≡ k * 2 → effects_in (xs ++ ys) ≡ effects_in xs ++ effects_in ys
unfolding effects_in
effects_append k [] ys h = refl
effects_append zero (a ∷ xs) ys h = absurd (omega arith)
effects_append (suc k) (a ∷ []) ys h = absurd (omega arith)
effects_append (suc k) (a ∷ b ∷ xs) ys h = ap {B = List Effect} (λ r. timer_of a b ∷ r) (effects_append k xs ys (omega arith))

-- ---- sends and cancels as they are noted

-- a name's number is below 65,535, and a send id's is 65,535 where there is none
unfoldable pub numbered : Effect → Bool
numbered (exited i) = true
numbered (taken t) = true
numbered (entered i) = true
numbered (acted n) = true
numbered (raised n) = true
numbered (done i) = true
numbered (chosen i) = true
numbered (sent n delay id) = ltb n no_number && leb id no_number
numbered (cancelled n) = ltb n no_number

sent_again : (n delay id : ℕ) → n < 65535 → id ≤ 65535 → timer_of (n * 65536 + id) delay ≡ sent n delay id
unfolding timer_of
sent_again n delay id l m =
    let a : (n * 65536 + id) / 65536 ≡ n = omega arith in
    let b : (n * 65536 + id) % 65536 ≡ id = omega arith in
    rw (a, b, ne_eqb n 65535 (omega arith))

cancelled_again : (n : ℕ) → n < 65535 → timer_of (no_number * 65536 + n) 0 ≡ cancelled n
unfolding timer_of
cancelled_again n l =
    let a : (no_number * 65536 + n) / 65536 ≡ 65535 = omega arith in
    let b : (no_number * 65536 + n) % 65536 ≡ n = omega arith in
    rw (a, b)

module _ (names : Names) (ticks : ℕ) where
  -- the sends and cancels alone leave the table that all effects leave
  pub table_timers : (t : Table) (es : List Effect) → all numbered es ≡ true → table_after names ticks t es ≡ table_after names ticks t (effects_in (timers_of es))
  unfolding table_after table_step timers_of flat timing effects_in all numbered
  table_timers t [] h = refl
  table_timers t (exited i ∷ es) h = unfold timers_of in table_timers t es h
  table_timers t (taken i ∷ es) h = unfold timers_of in table_timers t es h
  table_timers t (entered i ∷ es) h = unfold timers_of in table_timers t es h
  table_timers t (acted n ∷ es) h = unfold timers_of in table_timers t es h
  table_timers t (raised n ∷ es) h = unfold timers_of in table_timers t es h
  table_timers t (done i ∷ es) h = unfold timers_of in table_timers t es h
  table_timers t (chosen i ∷ es) h = unfold timers_of in table_timers t es h
  table_timers t (sent n delay id ∷ es) h =
      let g : (ltb n no_number && leb id no_number) ≡ true = and_left (ltb n no_number && leb id no_number) _ h in
      let e = sent_again n delay id (ltb-true _ _ (and_left (ltb n no_number) _ g)) (leb-true _ _ (and_right (ltb n no_number) _ g)) in
      rw e (table_timers (with_send t (send_of names ticks n delay id)) es (and_right (ltb n no_number && leb id no_number) _ h))
  table_timers t (cancelled n ∷ es) h =
      let e = cancelled_again n (ltb-true _ _ (and_left (ltb n no_number) _ h)) in
      rw e (table_timers (record { pending = without (names n) t.pending; full = t.full }) es (and_right (ltb n no_number) _ h))

-- ---- what is pending stays well formed

pub record Pending (ticks : ℕ) (ss : List Timer) : Type 0 where
  pub few : length ss ≤ 32
  pub timers : all (timer_fits ticks) ss ≡ true

-- running, every record of such sends is well formed
pub pending_fits : (ticks : ℕ) (ss : List Timer) → ticks ≤ most_ticks → Pending ticks ss → clock_fits Running (record { ticks = ticks; pending = ss }) ≡ true
unfolding clock_fits is_ended
pending_fits ticks ss l p =
    and_true _ _ (and_true _ _ (and_true _ _ (le-leb ticks most_ticks l) (le-leb (length ss) most_pending p.few)) p.timers) refl

pub send_pending : (ticks : ℕ) (ss : List Timer) (s : Timer) → Pending ticks ss → length ss < 32 → timer_fits ticks s ≡ true → Pending ticks (ss ++ (s ∷ []))
unfolding all
send_pending ticks ss s p l h =
    record {
      few = omega (arith, length-append ss (s ∷ []));
      timers = all_both (timer_fits ticks) ss (s ∷ []) p.timers (and_true (timer_fits ticks s) true h refl);
    }

pub cancel_pending : (ticks : ℕ) (id : Name) (ss : List Timer) → Pending ticks ss → Pending ticks (without id ss)
unfolding without all
cancel_pending ticks id [] p = p
cancel_pending ticks id (s ∷ ss) p =
    let few = p.few in
    let r : Pending ticks ss = record { few = omega arith; timers = and_right (timer_fits ticks s) _ p.timers } in
    let q : Pending ticks (without id ss) = cancel_pending ticks id ss r in
    let l : length (without id ss) ≤ length ss = fewer ss in
    go (same s.id id) q l
  where
    fewer : (xs : List Timer) → length (without id xs) ≤ length xs
    fewer [] = omega arith
    fewer (x ∷ xs) = less (same x.id id) (fewer xs)
      where
        less : (b : Bool) → length (without id xs) ≤ length xs → length (cond b (without id xs) (x ∷ without id xs)) ≤ suc (length xs)
        less true l = omega arith
        less false l = omega arith

    go : (b : Bool) → Pending ticks (without id ss) → length (without id ss) ≤ length ss → Pending ticks (cond b (without id ss) (s ∷ without id ss))
    go true q l = q
    go false q l = let few = p.few in record { few = omega arith; timers = and_true (timer_fits ticks s) _ (and_left (timer_fits ticks s) _ p.timers) q.timers }

pub length_removed : (i : ℕ) (ss : List Timer) → i < length ss → length (without_at i ss) ≡ length ss - 1
unfolding without_at
length_removed i [] l = absurd (omega arith)
length_removed zero (s ∷ ss) l = omega arith
length_removed (suc i) (s ∷ ss) l = let h = length_removed i ss (omega arith) in omega arith

all_removed : (p : Timer → Bool) (i : ℕ) (ss : List Timer) → all p ss ≡ true → all p (without_at i ss) ≡ true
unfolding all without_at
all_removed p i [] h = refl
all_removed p zero (s ∷ ss) h = and_right (p s) _ h
all_removed p (suc i) (s ∷ ss) h = and_true (p s) (all p (without_at i ss)) (and_left (p s) _ h) (all_removed p i ss (and_right (p s) _ h))

pub remove_pending : (ticks i : ℕ) (ss : List Timer) → Pending ticks ss → i < length ss → Pending ticks (without_at i ss)
remove_pending ticks i ss p l =
    let few = p.few in
    record { few = omega (arith, length_removed i ss l); timers = all_removed (timer_fits ticks) i ss p.timers }

-- a send whose names stand in their slots
pub send_fits : (names : List ℕ) (ticks n delay id : ℕ) → timer_known names (sent n delay id) ≡ true → timer_fits ticks (send_of (name_at names) ticks n delay id) ≡ true
unfolding timer_known timer_fits send_of id_of is_slot
send_fits names ticks n delay id h =
    let p = and3 (is_slot names n) (leb delay most_delay) (eqb id no_number || is_slot names id) h in
    let l : delay ≤ most_delay = leb-true _ _ p.1 in
    and_true _ _ (and_true _ _ (le-leb (ticks + delay) (ticks + most_delay) (omega arith)) (and_right (leb (n * 64 + 64) (length names)) _ p.0))
    (bool_case (eqb id no_number) (λ e. unfold is_empty in rw e) (λ e. rw e (or_right (is_empty (name_at names id)) _ (and_right (leb (id * 64 + 64) (length names)) _ (rw e at p.2)))))
