-- What the bytes of a record spell is that record: lengths, zeros, and the record read again.
use Rattle.std.specs.Prelude.{◌≡◌, refl, true, not, ◌||◌, ℕ, ◌+◌, ◌*◌, ◌≤◌, ◌<◌, leb, length, get_or, drop, replicate}
use Rattle.std.proofs.Common.{sym, ◌∙◌, zero-add, arith}
use Rattle.std.proofs.Math.Path.{ap}
use mathlib.Core.List.{List, [], map}
use borrow.Author.Tests.{leb-true}
use Rattle.definition.specs.declared.Mode.{Mode}
use Rattle.definition.specs.declared.Mode.TheVariants.{Running}
use Rattle.definition.specs.Rows.{from, all, is_empty, same}
use Rattle.definition.specs.Names.{Name, is_name, before_zero}
use Rattle.definition.specs.Tables.{name_at, slot_at, slot_of, most_delay}
use Rattle.follower.specs.Clock.{Timer, Clock, most_pending, most_ticks, new_clock}
use Rattle.follower.specs.Follower.{is_ended}
use Rattle.follower.specs.Legal.{timer_fits, clock_fits}
use Rattle.laws.specs.Bools.{and_left, and_right, and_true, and3, and4, or_elim, or_right}
use Rattle.laws.specs.Cells.{cells, blank, cells_length, cells_none, cell_in}
use Rattle.laws.specs.Lists.{empty_list, same_eq, same_self}
use Rattle.laws.specs.Maps.{map_reads, all_at}
use Rattle.names.specs.Slots.{slot_length, name_in_slot}
use Rattle.clock.specs.Records.{bytes_of, number_at, due_bytes, event_slot, id_slot, clock_bytes, timer_at, clock_in, is_clock, ClockHolds}
use Rattle.clock.specs.Numbers.{bytes_length, bytes_zero, number_again}
use Rattle.clock.specs.Parts.{Parts, parts_length, ticks_number, count_number, due_number, event_name, id_name}

pub due_size_lem : (s : Timer) → length (due_bytes s) ≡ 8
unfolding due_bytes
due_size_lem s = bytes_length s.due

pub event_size : (s : Timer) → length (event_slot s) ≡ 64
unfolding event_slot
event_size s = slot_length s.event

pub id_size : (s : Timer) → length (id_slot s) ≡ 64
unfolding id_slot
id_size s = slot_length s.id

-- ---- the parts of a record's bytes

pub clock_parts : (k : Clock) (bytes : List ℕ) → bytes ≡ clock_bytes k →
    Parts bytes (bytes_of k.ticks) (bytes_of (length k.pending)) (cells due_bytes 8 32 k.pending) (cells event_slot 64 32 k.pending) (cells id_slot 64 32 k.pending)
unfolding clock_bytes
clock_parts k bytes e =
    record {
      spells = e;
      ticks_size = bytes_length k.ticks;
      count_size = bytes_length (length k.pending);
      due_size = cells_length due_bytes 8 due_size_lem 32 k.pending;
      events_size = cells_length event_slot 64 event_size 32 k.pending;
      ids_size = cells_length id_slot 64 id_size 32 k.pending;
    }

pub clock_length : (k : Clock) → length (clock_bytes k) ≡ 4368
clock_length k = parts_length _ _ _ _ _ _ (clock_parts k (clock_bytes k) refl)

-- zeros are the new record
pub zeros_are_new : clock_bytes new_clock ≡ replicate 4368 0
unfolding clock_bytes
zeros_are_new =
    let z : bytes_of 0 ≡ blank 8 = bytes_zero in
    rw (z, cells_none due_bytes 8 32, cells_none event_slot 64 32, cells_none id_slot 64 32)

-- ---- read again

abbrev pub no_timer : Timer
no_timer = record { due = 0; event = []; id = [] }

-- a name, or nothing, is found again in its slot
name_again : (n : Name) → (is_empty n || is_name n) ≡ true → before_zero (slot_of n) ≡ n
unfolding slot_of before_zero
name_again n h = or_elim (is_empty n) (is_name n) (λ e. rw (empty_list n e)) (λ e. name_in_slot n e) h

module _ (m : Mode) (k : Clock) (h : clock_fits m k ≡ true) where
  parts_fit : (leb k.ticks most_ticks ≡ true) × (leb (length k.pending) most_pending ≡ true) × (all (timer_fits k.ticks) k.pending ≡ true) × ((not (is_ended m) || is_empty k.pending) ≡ true)
  unfolding clock_fits
  parts_fit = and4 _ _ _ _ h

  pub fits_ticks : k.ticks ≤ most_ticks
  fits_ticks = leb-true _ _ parts_fit.0

  pub fits_few : length k.pending ≤ 32
  fits_few = leb-true _ _ parts_fit.1

  pub fits_timers : all (timer_fits k.ticks) k.pending ≡ true
  fits_timers = parts_fit.2

  pub fits_ended : (not (is_ended m) || is_empty k.pending) ≡ true
  fits_ended = parts_fit.3

  one_fits : (i : ℕ) → i < length k.pending →
      (leb (get_or k.pending i no_timer).due (k.ticks + most_delay) ≡ true) × (is_name (get_or k.pending i no_timer).event ≡ true) ×
      ((is_empty (get_or k.pending i no_timer).id || is_name (get_or k.pending i no_timer).id) ≡ true)
  unfolding timer_fits
  one_fits i l = and3 _ _ _ (all_at (timer_fits k.ticks) k.pending no_timer fits_timers i l)

  module _ (bytes : List ℕ) (e : bytes ≡ clock_bytes k) where
    abbrev ss : List Timer
    ss = k.pending

    read_ticks : number_at bytes 0 ≡ k.ticks
    read_ticks = let l = fits_ticks in ticks_number _ _ _ _ _ _ (clock_parts k bytes e) ∙ number_again k.ticks (omega arith)

    pub read_count : number_at bytes 8 ≡ length ss
    read_count = let l = fits_few in count_number _ _ _ _ _ _ (clock_parts k bytes e) ∙ number_again (length ss) (omega arith)

    read_due : (i : ℕ) → i < length ss → number_at bytes (16 + i * 8) ≡ (get_or ss i no_timer).due
    unfolding due_bytes
    read_due i l =
        let few = fits_few in
        let t = fits_ticks in
        let d : (get_or ss i no_timer).due ≤ k.ticks + most_delay = leb-true _ _ (one_fits i l).0 in
        due_number _ _ _ _ _ _ (clock_parts k bytes e) i (omega arith) ∙
        ap (λ (q : List ℕ). number_at q 0) (cell_in due_bytes 8 due_size_lem 32 i ss no_timer (omega arith) l) ∙
        number_again (get_or ss i no_timer).due (omega arith)

    read_event : (i : ℕ) → i < length ss → name_at (drop 272 bytes) i ≡ (get_or ss i no_timer).event
    unfolding event_slot name_at slot_at
    read_event i l =
        let few = fits_few in
        event_name _ _ _ _ _ _ (clock_parts k bytes e) i (omega arith) ∙
        ap before_zero (cell_in event_slot 64 event_size 32 i ss no_timer (omega arith) l) ∙
        name_in_slot (get_or ss i no_timer).event (one_fits i l).1

    read_id : (i : ℕ) → i < length ss → name_at (drop 2320 bytes) i ≡ (get_or ss i no_timer).id
    unfolding id_slot name_at slot_at
    read_id i l =
        let few = fits_few in
        id_name _ _ _ _ _ _ (clock_parts k bytes e) i (omega arith) ∙
        ap before_zero (cell_in id_slot 64 id_size 32 i ss no_timer (omega arith) l) ∙
        name_again (get_or ss i no_timer).id (one_fits i l).2

    read_timer : (i : ℕ) → i < length ss → timer_at bytes i ≡ get_or ss i no_timer
    unfolding timer_at
    read_timer i l =
        let a = read_due i l in
        let b = read_event i l in
        let c = read_id i l in
        λ j. record { due = a j; event = b j; id = c j }

    pub read_again : clock_in bytes ≡ k
    unfolding clock_in
    read_again =
        let t = read_ticks in
        let p : map (timer_at bytes) (from (number_at bytes 8) 0) ≡ ss =
        ap (λ (n : ℕ). map (timer_at bytes) (from n 0)) read_count ∙ map_reads (timer_at bytes) ss 0 no_timer (λ i l. ap (timer_at bytes) (zero-add i) ∙ read_timer i l) in
        λ j. record { ticks = t j; pending = p j }

  pub clock_again : clock_in (clock_bytes k) ≡ k
  clock_again = read_again (clock_bytes k) refl

  pub bytes_hold : (bytes : List ℕ) → bytes ≡ clock_bytes k → ClockHolds m bytes
  bytes_hold bytes e = record { spells = e ∙ ap clock_bytes (sym (read_again bytes e)); fits = ap (clock_fits m) (read_again bytes e) ∙ h }

-- ---- the test and the fact

pub holds_is_clock : (m : Mode) (bytes : List ℕ) → ClockHolds m bytes → is_clock m bytes ≡ true
unfolding is_clock
holds_is_clock m bytes h = and_true (same bytes (clock_bytes (clock_in bytes))) _ (ap (same bytes) (sym h.spells) ∙ same_self bytes) h.fits

pub is_clock_holds : (m : Mode) (bytes : List ℕ) → is_clock m bytes ≡ true → ClockHolds m bytes
unfolding is_clock
is_clock_holds m bytes h =
    record {
      spells = same_eq _ _ (and_left (same bytes (clock_bytes (clock_in bytes))) _ h);
      fits = and_right (same bytes (clock_bytes (clock_in bytes))) _ h;
    }

pub holds_length : (m : Mode) (bytes : List ℕ) → ClockHolds m bytes → length bytes ≡ 4368
holds_length m bytes h = ap length h.spells ∙ clock_length (clock_in bytes)

-- the new record is well formed beside any session
pub new_fits : (m : Mode) → clock_fits m new_clock ≡ true
unfolding clock_fits all is_empty
new_fits m = or_right (not (is_ended m)) true refl

pub zeros_hold : (m : Mode) → ClockHolds m (replicate 4368 0)
zeros_hold m = bytes_hold m new_clock (new_fits m) (replicate 4368 0) (sym zeros_are_new)

pub zeros_spell : clock_in (replicate 4368 0) ≡ new_clock
zeros_spell = read_again Running new_clock (new_fits Running) (replicate 4368 0) (sym zeros_are_new)
