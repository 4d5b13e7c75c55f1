-- The effect of each kind number, and its entry in the trace.
use Rattle.std.specs.Prelude.{◌≡◌, List, [], ◌∷◌, ℕ, zero, suc, ◌+◌, ◌*◌, ◌^◌, ◌≤◌, length, set}
use Rattle.std.proofs.Math.Path.{refl}
use Rattle.std.proofs.Common.{ap, sym, ◌∙◌, length-set}
use native.Mathlib.Omega.{arith}
use Rattle.definition.specs.declared.Action.{Action}
use Rattle.definition.specs.declared.Action.TheVariants.{Raise, Host, If, ElseIf, Else, End, Send, Cancel}
use Rattle.definition.specs.declared.Reach.{Reach}
use Rattle.definition.specs.declared.Reach.TheVariants.{Live, Waiting, Past}
use Rattle.definition.specs.Tables.{most_delay, no_number}
use Rattle.follower.specs.Blocks.{Effect, exited, taken, entered, acted, raised, done, chosen, sent, cancelled, trace_no, perform, perform_if}
use Rattle.paths.specs.Timing.{times, all_times}
use Rattle.effects.specs.declared.Tally.{Tally}
use Rattle.effects.specs.Trace.{queues, all_queues, join_at, timer_at, note, notes_one, Places, places, overwrite_one, Wrote, Shown, Room}
use Rattle.effects.specs.Writing.{wrote_none}

-- "1 exited row, 2 transition, 3 entered row, 4 host action, 5 raised name, 6 done event of row"; 7 the row that chose. The number of a send's entry does not
-- tell its delay and send id: sends and cancels stand for themselves
abbrev pub effect_of : ℕ → ℕ → Effect
effect_of zero i = exited i
effect_of (suc zero) i = exited i
effect_of (suc (suc zero)) i = taken i
effect_of (suc (suc (suc zero))) i = entered i
effect_of (suc (suc (suc (suc zero)))) i = acted i
effect_of (suc (suc (suc (suc (suc zero))))) i = raised i
effect_of (suc (suc (suc (suc (suc (suc zero)))))) i = done i
effect_of (suc (suc (suc (suc (suc (suc (suc zero))))))) i = chosen i
effect_of (suc (suc (suc (suc (suc (suc (suc (suc k)))))))) i = exited i

-- the kind and the index of an entry are within their ranges
pub record InEntry (k i : ℕ) : Type 0 where
  pub some : 1 ≤ k
  pub most : k ≤ 7
  pub index : i ≤ 65535

pub effect_no : (k i : ℕ) → InEntry k i → trace_no (effect_of k i) ≡ k * 65536 + i
unfolding trace_no
effect_no zero i h = let l = h.some in absurd (omega arith)
effect_no (suc zero) i h = refl
effect_no (suc (suc zero)) i h = refl
effect_no (suc (suc (suc zero))) i h = refl
effect_no (suc (suc (suc (suc zero)))) i h = refl
effect_no (suc (suc (suc (suc (suc zero))))) i h = refl
effect_no (suc (suc (suc (suc (suc (suc zero)))))) i h = refl
effect_no (suc (suc (suc (suc (suc (suc (suc zero))))))) i h = refl
effect_no (suc (suc (suc (suc (suc (suc (suc (suc k)))))))) i h = let l = h.most in absurd (omega arith)

-- the numbers that an action holds are those of an entry or of a note, or a row
abbrev argument : Action → ℕ
argument (Raise n) = n
argument (Host n) = n
argument (If i) = i
argument (ElseIf i) = i
argument Else = 0
argument End = 0
argument (Send n delay id) = n
argument (Cancel n) = n

abbrev most_argument : Action → ℕ
most_argument (Raise n) = 65535
most_argument (Host n) = 65535
most_argument (If i) = 255
most_argument (ElseIf i) = 255
most_argument Else = 0
most_argument End = 0
most_argument (Send n delay id) = 65534
most_argument (Cancel n) = 65534

-- of a send the other two
abbrev delay_in : Action → ℕ
delay_in (Raise n) = 0
delay_in (Host n) = 0
delay_in (If i) = 0
delay_in (ElseIf i) = 0
delay_in Else = 0
delay_in End = 0
delay_in (Send n delay id) = delay
delay_in (Cancel n) = 0

abbrev id_in : Action → ℕ
id_in (Raise n) = 0
id_in (Host n) = 0
id_in (If i) = 0
id_in (ElseIf i) = 0
id_in Else = 0
id_in End = 0
id_in (Send n delay id) = id
id_in (Cancel n) = 0

pub record ActionFits (a : Action) : Type 0 where
  pub fits : argument a ≤ most_argument a
  pub delay : delay_in a ≤ most_delay
  pub id : id_in a ≤ no_number

-- ---- one entry, written where it fits, and counted

kind_times : (k i : ℕ) → times (effect_of k i) ≡ 0
unfolding times
kind_times zero i = refl
kind_times (suc zero) i = refl
kind_times (suc (suc zero)) i = refl
kind_times (suc (suc (suc zero))) i = refl
kind_times (suc (suc (suc (suc zero)))) i = refl
kind_times (suc (suc (suc (suc (suc zero))))) i = refl
kind_times (suc (suc (suc (suc (suc (suc zero)))))) i = refl
kind_times (suc (suc (suc (suc (suc (suc (suc zero))))))) i = refl
kind_times (suc (suc (suc (suc (suc (suc (suc (suc k)))))))) i = refl

module _ (place : List ℕ) (t : Tally) where
  none_noted : (e : Effect) → queues e ≡ 0 → times e ≡ 0 → note place t e ≡ place
  unfolding queues times note
  none_noted (exited i) h g = refl
  none_noted (taken u) h g = refl
  none_noted (entered i) h g = refl
  none_noted (acted n) h g = refl
  none_noted (raised n) h g = absurd (omega arith)
  none_noted (done i) h g = absurd (omega arith)
  none_noted (chosen i) h g = refl
  none_noted (sent n delay id) h g = absurd (omega arith)
  none_noted (cancelled n) h g = absurd (omega arith)

  join_noted : (e : Effect) → queues e ≡ 1 → note place t e ≡ join_at place t.names (trace_no e)
  unfolding queues note
  join_noted (exited i) h = absurd (omega arith)
  join_noted (taken u) h = absurd (omega arith)
  join_noted (entered i) h = absurd (omega arith)
  join_noted (acted n) h = absurd (omega arith)
  join_noted (raised n) h = refl
  join_noted (done i) h = refl
  join_noted (chosen i) h = absurd (omega arith)
  join_noted (sent n delay id) h = absurd (omega arith)
  join_noted (cancelled n) h = absurd (omega arith)

-- any effect, by its entry and its note
module _ (t r : Tally) (e : Effect) where
  one_counted : (all_queues (e ∷ []) ≡ queues e) × (all_times (e ∷ []) ≡ times e)
  unfolding all_queues all_times
  one_counted = (omega arith, omega arith)

  pub entry_room : Room t (e ∷ []) → (t.entries + 1 ≤ 2 ^ 62) × (t.names + queues e ≤ 2 ^ 62) × (t.timers + times e ≤ 2 ^ 62)
  entry_room m =
      let a = m.entries in
      let b = m.names in
      let d = m.timers in
      let q = one_counted.0 in
      let u = one_counted.1 in
      (omega arith, omega arith, omega arith)

  pub noted : (old new before after : List ℕ) → new ≡ set old t.entries (trace_no e) → after ≡ note before t e → r.entries ≡ t.entries + 1 → r.names ≡ t.names + queues e → r.timers ≡ t.timers + times e →
      Wrote (places old before) (places new after) t r (e ∷ [])
  noted old new before after x y n q u =
      let a = one_counted.0 in
      let b = one_counted.1 in
      record {
        trace = x ∙ sym (overwrite_one old t.entries (trace_no e));
        joins = y ∙ sym (notes_one before t e);
        entries = n;
        names = omega arith;
        timers = omega arith;
      }

module _ (t : Tally) (k i : ℕ) where
  pub one_fits : Room t (effect_of k i ∷ []) → (t.entries + 1 ≤ 2 ^ 62) × (t.names + queues (effect_of k i) ≤ 2 ^ 62)
  one_fits m = let f = entry_room t t (effect_of k i) m in (f.0, f.1)

  module _ (old new : List ℕ) (r : Tally) (h : InEntry k i) (e : new ≡ set old t.entries (k * 65536 + i)) (n : r.entries ≡ t.entries + 1) where
    in_trace : new ≡ set old t.entries (trace_no (effect_of k i))
    in_trace = e ∙ ap (set old t.entries) (sym (effect_no k i h))

    pub shown : queues (effect_of k i) ≡ 0 → r.names ≡ t.names → r.timers ≡ t.timers → Shown old new t r (effect_of k i)
    shown z q u =
        let v = kind_times k i in
        record {
          wrote = λ joins. noted t r (effect_of k i) old new joins joins in_trace (sym (none_noted joins t (effect_of k i) z v)) n (omega arith) (omega arith);
          size = ap length e ∙ length-set old t.entries (k * 65536 + i);
        }

    pub joined : (before after : List ℕ) → after ≡ join_at before t.names (k * 65536 + i) → queues (effect_of k i) ≡ 1 → r.names ≡ t.names + 1 → r.timers ≡ t.timers →
        Wrote (places old before) (places new after) t r (effect_of k i ∷ [])
    joined before after f z q u =
        let v = kind_times k i in
        noted t r (effect_of k i) old new before after in_trace
        (f ∙ ap (join_at before t.names) (sym (effect_no k i h)) ∙ sym (join_noted before t (effect_of k i) z)) n (omega arith) (omega arith)

-- a send and a cancel: the numbers that their entries and notes are made of
pub record SendIn (n id : ℕ) : Type 0 where
  pub name : n ≤ 65534
  pub known : id ≤ no_number

module _ (t r : Tally) (old new before after : List ℕ) (q : r.entries ≡ t.entries + 1) (u : r.names ≡ t.names) (v : r.timers ≡ t.timers + 1) where
  pub sent_wrote : (n delay id : ℕ) → new ≡ set old t.entries (8 * 65536 + n) → after ≡ timer_at before t.timers (n * 65536 + id) delay →
      Wrote (places old before) (places new after) t r (sent n delay id ∷ [])
  unfolding trace_no note queues times
  sent_wrote n delay id x y = noted t r (sent n delay id) old new before after x y q (omega arith) (omega arith)

  pub cancelled_wrote : (n : ℕ) → new ≡ set old t.entries (9 * 65536 + n) → after ≡ timer_at before t.timers (65535 * 65536 + n) 0 →
      Wrote (places old before) (places new after) t r (cancelled n ∷ [])
  unfolding trace_no note queues times
  cancelled_wrote n x y = noted t r (cancelled n) old new before after x y q (omega arith) (omega arith)

pub timer_fits_lem : (t : Tally) (e : Effect) → times e ≡ 1 → Room t (e ∷ []) → (t.entries + 1 ≤ 2 ^ 62) × (t.timers + 1 ≤ 2 ^ 62)
timer_fits_lem t e z m = let f = entry_room t t e m in let u = f.2 in (f.0, omega arith)

-- ---- an action that was matched

module _ (a : Action) (n : ℕ) where
  pub raise_fits_lem : a ≡ Raise n → ActionFits a → n ≤ 65535
  raise_fits_lem e f = rw e at f.fits

  pub host_fits : a ≡ Host n → ActionFits a → n ≤ 65535
  host_fits e f = rw e at f.fits

  pub cancel_fits : a ≡ Cancel n → ActionFits a → n ≤ 65534
  cancel_fits e f = rw e at f.fits

  pub if_low : a ≡ If n → ActionFits a → n ≤ 255
  if_low e f = rw e at f.fits

  pub elseif_low : a ≡ ElseIf n → ActionFits a → n ≤ 255
  elseif_low e f = rw e at f.fits

pub send_fits : (a : Action) (n delay id : ℕ) → a ≡ Send n delay id → ActionFits a → (n ≤ 65534) × (delay ≤ most_delay) × (id ≤ no_number)
send_fits a n delay id e f = (rw e at f.fits, rw e at f.delay, rw e at f.id)

module _ (a : Action) (t : Tally) (n : ℕ) where
  pub raise_in : a ≡ Raise n → ActionFits a → Room t (perform a) → InEntry 5 n × (queues (raised n) ≡ 1) × Room t (raised n ∷ [])
  unfolding perform
  raise_in e f m = (record { some = omega arith; most = omega arith; index = raise_fits_lem a n e f }, unfold queues in refl, rw e at m)

  pub host_in : a ≡ Host n → ActionFits a → Room t (perform a) → InEntry 4 n × (queues (acted n) ≡ 0) × Room t (acted n ∷ [])
  unfolding perform
  host_in e f m = (record { some = omega arith; most = omega arith; index = host_fits a n e f }, unfold queues in refl, rw e at m)

  pub raise_wrote : (old new : Places) (r : Tally) → a ≡ Raise n → Wrote old new t r (raised n ∷ []) → Wrote old new t r (perform a)
  unfolding perform
  raise_wrote old new r e w = rw e w

  pub host_wrote : (old new : Places) (r : Tally) → a ≡ Host n → Wrote old new t r (acted n ∷ []) → Wrote old new t r (perform a)
  unfolding perform
  host_wrote old new r e w = rw e w

  pub cancel_in : a ≡ Cancel n → ActionFits a → Room t (perform a) → (n ≤ 65534) × Room t (cancelled n ∷ [])
  unfolding perform
  cancel_in e f m = (cancel_fits a n e f, rw e at m)

  pub cancel_wrote : (old new : Places) (r : Tally) → a ≡ Cancel n → Wrote old new t r (cancelled n ∷ []) → Wrote old new t r (perform a)
  unfolding perform
  cancel_wrote old new r e w = rw e w

module _ (a : Action) (t : Tally) (n delay id : ℕ) where
  pub send_in : a ≡ Send n delay id → ActionFits a → Room t (perform a) → SendIn n id × Room t (sent n delay id ∷ [])
  unfolding perform
  send_in e f m = let q = send_fits a n delay id e f in (record { name = q.0; known = q.2 }, rw e at m)

  pub send_wrote : (old new : Places) (r : Tally) → a ≡ Send n delay id → Wrote old new t r (sent n delay id ∷ []) → Wrote old new t r (perform a)
  unfolding perform
  send_wrote old new r e w = rw e w

-- the parts of an if show nothing
module _ (a : Action) (old : Places) (t : Tally) where
  pub if_wrote : (n : ℕ) → a ≡ If n → Wrote old old t t (perform a)
  unfolding perform
  if_wrote n e = rw e (wrote_none old t)

  pub elseif_wrote : (n : ℕ) → a ≡ ElseIf n → Wrote old old t t (perform a)
  unfolding perform
  elseif_wrote n e = rw e (wrote_none old t)

  pub else_wrote : a ≡ Else → Wrote old old t t (perform a)
  unfolding perform
  else_wrote e = rw e (wrote_none old t)

  pub end_wrote : a ≡ End → Wrote old old t t (perform a)
  unfolding perform
  end_wrote e = rw e (wrote_none old t)

-- ---- an action that is passed over, or not

module _ (reach : Reach) (a : Action) (t : Tally) where
  pub live_room : reach ≡ Live → Room t (perform_if reach a) → Room t (perform a)
  unfolding perform_if
  live_room e m = rw e at m

  pub live_wrote : (old new : Places) (r : Tally) → reach ≡ Live → Wrote old new t r (perform a) → Wrote old new t r (perform_if reach a)
  unfolding perform_if
  live_wrote old new r e w = rw e w

  pub waiting_wrote : (old : Places) (n : ℕ) → reach ≡ Waiting n → Wrote old old t t (perform_if reach a)
  unfolding perform_if
  waiting_wrote old n e = rw e (wrote_none old t)

  pub past_wrote : (old : Places) (n : ℕ) → reach ≡ Past n → Wrote old old t t (perform_if reach a)
  unfolding perform_if
  past_wrote old n e = rw e (wrote_none old t)
