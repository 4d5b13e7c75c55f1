-- Noted sends and cancels applied one by one, and window after window.
use Rattle.std.specs.Prelude.{◌≡◌, refl, Bool, true, ◌||◌, List, [], ◌∷◌, ◌++◌, eqb, leb, length, get_or, drop}
use Rattle.std.proofs.Math.Path.{sym, ap}
use Rattle.std.proofs.Common.{◌∙◌, leb-true, eq-eqb, ne_eqb}
use Rattle.std.proofs.Math.Bool.{false}
use Prim.Native.Nat.{ℕ, suc, ◌+◌, ◌*◌, ◌/◌, ◌%◌, ◌≤◌, ◌<◌}
use native.Mathlib.Omega.{arith}
use Rattle.std.proofs.Math.ListN.{length-drop}
use Rattle.std.proofs.Math.Seq.{drop-cons}
use Rattle.definition.specs.declared.Mode.TheVariants.{Running}
use Rattle.definition.specs.Rows.{all, is_empty}
use Rattle.definition.specs.Names.{Name, is_name}
use Rattle.definition.specs.Tables.{no_number, most_delay, name_at}
use Rattle.follower.specs.Blocks.{Effect, sent, cancelled}
use Rattle.follower.specs.Clock.{Timer, Clock, Table, id_of, send_of, with_send, without, table_step, table_after}
use Rattle.laws.specs.Bools.{no, and_left, and_right, and3, bool_case, or_right}
use Rattle.paths.specs.Timing.{timer_of, effects_in}
use Rattle.queue.specs.Queues.{SlotInside}
use Rattle.clock.specs.Records.{clock_bytes, clock_in, ClockHolds, is_slot, timer_known, table_by, Applied}
use Rattle.clock.specs.Spelled.{holds_length}
use Rattle.clock.specs.Tabled.{table_append, table_full, effects_append}
use Rattle.clock.specs.Left.{Left, left_ticks, left_pending, left_holds}
use Rattle.clock.specs.Sending.{table_in, timer_by, Sent}

-- a send id's number that a send may have
unfoldable pub id_known : List ℕ → ℕ → Bool
id_known names id = eqb id no_number || is_slot names id

pub record AppliedOne (names : List ℕ) (e : Effect) (old new : List ℕ) (b : Bool) : Type 0 where
  pub full : b ≡ (table_step (name_at names) (clock_in old).ticks (table_in old) e).full
  pub left : Left old new (table_step (name_at names) (clock_in old).ticks (table_in old) e).pending

-- ---- what is known of one

pub slot_known : (names : List ℕ) (n : ℕ) → is_slot names n ≡ true → SlotInside names n
unfolding is_slot
slot_known names n h = record { inside = leb-true _ _ (and_left (leb (n * 64 + 64) (length names)) _ h) }

pub slot_named : (names : List ℕ) (n : ℕ) → is_slot names n ≡ true → is_name (name_at names n) ≡ true
unfolding is_slot
slot_named names n h = and_right (leb (n * 64 + 64) (length names)) _ h

pub id_slot_lem : (names : List ℕ) (id : ℕ) → id_known names id ≡ true → (id ≡ 65535 → ⊥) → SlotInside names id
unfolding id_known
id_slot_lem names id h d = slot_known names id (rw (ne_eqb id 65535 d) at h)

pub id_none : (names : List ℕ) (id : ℕ) → id ≡ 65535 → [] ≡ id_of (name_at names) id
unfolding id_of
id_none names id e = rw (eq-eqb id 65535 e)

pub id_some : (names : List ℕ) (id : ℕ) (r : Name) → (id ≡ 65535 → ⊥) → r ≡ name_at names id → r ≡ id_of (name_at names) id
unfolding id_of
id_some names id r d e = rw (ne_eqb id 65535 d) e

id_named_lem : (names : List ℕ) (id : ℕ) → id_known names id ≡ true → (is_empty (id_of (name_at names) id) || is_name (id_of (name_at names) id)) ≡ true
unfolding id_known id_of
id_named_lem names id h =
    bool_case (eqb id no_number) (λ e. unfold is_empty in rw e)
    (λ e. rw e (or_right (is_empty (name_at names id)) _ (slot_named names id (rw e at h))))

module _ (names : List ℕ) (a b : ℕ) (h : timer_known names (timer_of a b) ≡ true) where
  module _ (e : a / 65536 ≡ 65535) where
    is_cancel : timer_of a b ≡ cancelled (a % 65536)
    unfolding timer_of
    is_cancel = rw (eq-eqb (a / 65536) 65535 e)

    pub cancel_known : is_slot names (a % 65536) ≡ true
    unfolding timer_known
    cancel_known = rw is_cancel at h

    pub cancel_applied : (old new : List ℕ) (id : Name) → id ≡ name_at names (a % 65536) → Left old new (without id (clock_in old).pending) → AppliedOne names (timer_of a b) old new false
    unfolding table_step
    cancel_applied old new id q l = rw is_cancel (record { full = refl; left = rw q at l })

  module _ (d : a / 65536 ≡ 65535 → ⊥) where
    is_send : timer_of a b ≡ sent (a / 65536) b (a % 65536)
    unfolding timer_of
    is_send = rw (ne_eqb (a / 65536) 65535 d)

    send_known : (is_slot names (a / 65536) ≡ true) × (leb b most_delay ≡ true) × (id_known names (a % 65536) ≡ true)
    unfolding timer_known id_known
    send_known = and3 (is_slot names (a / 65536)) (leb b most_delay) (eqb (a % 65536) no_number || is_slot names (a % 65536)) (rw is_send at h)

    pub event_known : is_slot names (a / 65536) ≡ true
    event_known = send_known.0

    pub sent_id_known : id_known names (a % 65536) ≡ true
    sent_id_known = send_known.2

    pub send_asks : (old : List ℕ) (event id : Name) → ClockHolds Running old → event ≡ name_at names (a / 65536) → id ≡ id_of (name_at names) (a % 65536) →
        ClockHolds Running old × (is_name event ≡ true) × ((is_empty id || is_name id) ≡ true)
    send_asks old event id k p q = (k, rw p (slot_named names (a / 65536) event_known), rw q (id_named_lem names (a % 65536) sent_id_known))

    pub send_applied : (old new : List ℕ) (event id : Name) (f : Bool) → event ≡ name_at names (a / 65536) → id ≡ id_of (name_at names) (a % 65536) → Sent old new b event id f → AppliedOne names (timer_of a b) old new f
    unfolding table_step send_of
    send_applied old new event id f p q s =
        let t : timer_by old b event id ≡ send_of (name_at names) (clock_in old).ticks (a / 65536) b (a % 65536) = λ j. record { due = (clock_in old).ticks + b; event = p j; id = q j } in
        rw is_send (record { full = s.full ∙ ap (λ (x : Timer). (with_send (table_in old) x).full) t; left = rw t at s.left })

-- ---- all of them

effects_short : (xs : List ℕ) → length xs < 2 → effects_in xs ≡ []
unfolding effects_in
effects_short [] l = refl
effects_short (a ∷ []) l = refl
effects_short (a ∷ b ∷ xs) l = absurd (omega arith)

-- what is left to apply from the i-th on, in the record that began as old
pub record Applies (names timers old now : List ℕ) (i : ℕ) : Type 0 where
  pub holds : ClockHolds Running now
  pub ticks : (clock_in now).ticks ≡ (clock_in old).ticks
  pub left : table_by names timers old ≡ table_after (name_at names) (clock_in old).ticks (table_in now) (effects_in (drop (i * 2) timers))
  pub known : all (timer_known names) (effects_in (drop (i * 2) timers)) ≡ true

pub apply_begin : (names timers old : List ℕ) → ClockHolds Running old → all (timer_known names) (effects_in timers) ≡ true → Applies names timers old old 0
apply_begin names timers old h k = record { holds = h; ticks = refl; left = refl; known = k }

module _ (names timers old now : List ℕ) (i : ℕ) (g : Applies names timers old now i) where
  module _ (l : i < length timers / 2) where
    abbrev a : ℕ
    a = get_or timers (i * 2) 0

    abbrev b : ℕ
    b = get_or timers (i * 2 + 1) 0

    split : effects_in (drop (i * 2) timers) ≡ timer_of a b ∷ effects_in (drop ((i + 1) * 2) timers)
    unfolding effects_in
    split =
        let s : suc (i * 2) ≡ i * 2 + 1 = omega arith in
        let t : suc (i * 2 + 1) ≡ (i + 1) * 2 = omega arith in
        rw (drop-cons timers (i * 2) 0 (omega arith), s, drop-cons timers (i * 2 + 1) 0 (omega arith), t)

    pub apply_known : timer_known names (timer_of a b) ≡ true
    unfolding all
    apply_known = and_left (timer_known names (timer_of a b)) _ (rw split at g.known)

    module _ (new : List ℕ) (f : Bool) (o : AppliedOne names (timer_of a b) now new f) where
      abbrev t : Table
      t = table_step (name_at names) (clock_in now).ticks (table_in now) (timer_of a b)

      step : table_by names timers old ≡ table_after (name_at names) (clock_in old).ticks t (effects_in (drop ((i + 1) * 2) timers))
      unfolding table_after
      step = g.left ∙ rw (split, ← g.ticks)

      pub apply_on : f ≡ false → Applies names timers old new (i + 1)
      unfolding all
      apply_on e =
          let p = left_pending now new t.pending o.left in
          let q : t.full ≡ false = sym o.full ∙ e in
          let s : t ≡ table_in new = λ j. record { pending = sym p j; full = q j } in
          record {
            holds = left_holds now new t.pending o.left;
            ticks = left_ticks now new t.pending o.left ∙ g.ticks;
            left = step ∙ ap (λ (x : Table). table_after (name_at names) (clock_in old).ticks x (effects_in (drop ((i + 1) * 2) timers))) s;
            known = and_right (timer_known names (timer_of a b)) _ (rw split at g.known);
          }

      pub apply_full : f ≡ true → length new ≡ length old → Applied names timers old new true
      apply_full e n =
          record {
            full = sym (ap (λ (x : Table). x.full) step ∙ table_full (name_at names) (clock_in old).ticks t (effects_in (drop ((i + 1) * 2) timers)) (sym o.full ∙ e));
            left = λ z. absurd (no (sym z));
            read = λ z. absurd (no (sym z));
            holds = λ z. absurd (no (sym z));
            size = n;
          }

  pub apply_end : length timers / 2 ≤ i → length now ≡ length old → Applied names timers old now false
  unfolding table_after
  apply_end l n =
      let s : table_by names timers old ≡ table_in now = g.left ∙ rw (effects_short (drop (i * 2) timers) (omega (arith, length-drop (i * 2) timers))) in
      let t = g.ticks in
      let p : (clock_in now).pending ≡ (table_by names timers old).pending = sym (ap (λ (x : Table). x.pending) s) in
      let k : clock_in now ≡ record { ticks = (clock_in old).ticks; pending = (table_by names timers old).pending } = λ j. record { ticks = t j; pending = p j } in
      record {
        full = sym (ap (λ (x : Table). x.full) s);
        left = λ z. g.holds.spells ∙ ap clock_bytes k;
        read = λ z. k;
        holds = λ z. g.holds;
        size = n;
      }

pub one_length : (names : List ℕ) (e : Effect) (old new : List ℕ) (f : Bool) → ClockHolds Running old → AppliedOne names e old new f → length new ≡ length old
one_length names e old new f h o = holds_length Running new (left_holds old new _ o.left) ∙ sym (holds_length Running old h)

-- ---- window after window

module _ (names xs ys old mid new : List ℕ) (k : ℕ) (even : length xs ≡ k * 2) where
  pub windows : table_by names (xs ++ ys) old ≡ table_after (name_at names) (clock_in old).ticks (table_by names xs old) (effects_in ys)
  windows = rw (effects_append k xs ys even) (table_append (name_at names) (clock_in old).ticks (table_in old) (effects_in xs) (effects_in ys))

  -- the first window found no place
  pub windows_full : Applied names xs old mid true → (table_by names (xs ++ ys) old).full ≡ true
  windows_full a = ap (λ (t : Table). t.full) windows ∙ table_full (name_at names) (clock_in old).ticks (table_by names xs old) (effects_in ys) (sym a.full)

  -- it did not: the second goes on where it ended
  pub windows_on : (full : Bool) → Applied names xs old mid false → Applied names ys mid new full → Applied names (xs ++ ys) old new full
  windows_on full first second =
      let m = first.read refl in
      let t : (clock_in mid).ticks ≡ (clock_in old).ticks = ap (λ (k : Clock). k.ticks) m in
      let p : (clock_in mid).pending ≡ (table_by names xs old).pending = ap (λ (k : Clock). k.pending) m in
      let f : false ≡ (table_by names xs old).full = first.full in
      let s : table_in mid ≡ table_by names xs old = λ j. record { pending = p j; full = f j } in
      let w : table_by names ys mid ≡ table_by names (xs ++ ys) old =
      ap (λ (x : ℕ). table_after (name_at names) x (table_in mid) (effects_in ys)) t ∙ ap (λ (x : Table). table_after (name_at names) (clock_in old).ticks x (effects_in ys)) s ∙ sym windows in
      let q : ◌≡◌ {A = Clock} (record { ticks = (clock_in mid).ticks; pending = (table_by names ys mid).pending }) (record { ticks = (clock_in old).ticks; pending = (table_by names (xs ++ ys) old).pending }) =
      λ j. record { ticks = t j; pending = (w j).pending } in
      record {
        full = second.full ∙ ap (λ (x : Table). x.full) w;
        left = λ z. second.left z ∙ ap clock_bytes q;
        read = λ z. second.read z ∙ q;
        holds = second.holds;
        size = second.size ∙ first.size;
      }
