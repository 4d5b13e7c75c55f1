-- The tests of all parts are the test of the record, and what each way out of the code says.
use Rattle.std.specs.Prelude.{◌≡◌, Bool, ◌||◌, ℕ, suc, ◌+◌, ◌*◌, ◌≤◌, ◌<◌, eqb, length, get_or, take, drop}
use Rattle.std.proofs.Math.Path.{refl, sym, ap}
use Rattle.std.proofs.Common.{◌∙◌, arith, le-leb, ne_eqb}
use Rattle.std.proofs.Math.Bool.{true, false, not}
use mathlib.Core.List.{List, [], ◌∷◌}
use Rattle.std.proofs.Math.Dec.{leb}
use Rattle.std.proofs.Math.ListN.{length-drop}
use Rattle.std.proofs.Math.Seq.{length-take-le}
use Rattle.std.proofs.lemmas.Bool.{not-true, not-false}
use Rattle.definition.specs.declared.Mode.{Mode}
use Rattle.definition.specs.Rows.{all, is_empty}
use Rattle.definition.specs.Names.{Name, is_name}
use Rattle.definition.specs.Tables.{name_at, slot_at, slot_of, most_delay}
use Rattle.follower.specs.Clock.{Timer, most_pending, most_ticks}
use Rattle.follower.specs.Follower.{is_ended}
use Rattle.follower.specs.Legal.{timer_fits, clock_fits}
use Rattle.laws.specs.Bools.{clash, and_left, and_right, and_true, and3, both_ways, not_so}
use Rattle.laws.specs.Cells.{cells, cell_in}
use Rattle.laws.specs.Loops.{each_below, below_each}
use Rattle.laws.specs.Maps.{all_at}
use Rattle.clock.specs.Records.{bytes_of, number_at, due_bytes, event_slot, id_slot, clock_bytes, timer_at, clock_in, is_clock, ClockHolds}
use Rattle.clock.specs.Numbers.{number_part, number_back}
use Rattle.clock.specs.Parts.{Parts, parts_of_lem, dues_of, events_of, ids_of, due_part, events_part, ids_part, due_cell, due_number, event_name, id_name}
use Rattle.clock.specs.Spelled.{no_timer, clock_parts, due_size_lem, event_size, id_size, fits_ticks, fits_few, fits_timers, fits_ended, holds_is_clock, is_clock_holds, holds_length}
use Rattle.clock.specs.Left.{parts_spell, count_read, ticks_read}
use Rattle.clock.specs.Cancelling.{timer_read}
use Rattle.clock.specs.Judging.{due_fits, dues_fit, slot_fits, slot_fits_at, slots_fit, fits_again, fits_named, fits_named_or_blank, name_fits, id_fits_lem, cells_known, cells_zeros}

each_timer : (ticks : ℕ) (xs : List Timer) → ((i : ℕ) → i < length xs → timer_fits ticks (get_or xs i no_timer) ≡ true) → all (timer_fits ticks) xs ≡ true
unfolding all
each_timer ticks [] h = refl
each_timer ticks (x ∷ xs) h = and_true (timer_fits ticks x) _ (h 0 (omega arith)) (each_timer ticks xs (λ i l. h (suc i) (omega arith)))

module _ (m : Mode) (bytes : List ℕ) where
  abbrev n : ℕ
  n = length (clock_in bytes).pending

  abbrev ticks : ℕ
  ticks = (clock_in bytes).ticks

  -- what has to pass
  pub record Judged : Type 0 where
    pub few : n ≤ 32
    pub ticks_fit : ticks ≤ most_ticks
    pub ended : (not (is_ended m) || eqb n 0) ≡ true
    pub dues : dues_fit (dues_of bytes) n (ticks + most_delay) ≡ true
    pub events : slots_fit false (events_of bytes) n ≡ true
    pub ids : slots_fit true (ids_of bytes) n ≡ true

  empty_count : (xs : List Timer) → is_empty xs ≡ eqb (length xs) 0
  unfolding is_empty
  empty_count [] = refl
  empty_count (x ∷ xs) = sym (ne_eqb (suc (length xs)) 0 (λ q. omega arith))

  -- ---- a record that passes

  module _ (small : (k : ℕ) → get_or bytes k 0 < 256) (size : length bytes ≡ 4368) (j : Judged) where
    abbrev ss : List Timer
    ss = (clock_in bytes).pending

    parts : Parts bytes (take 8 bytes) (take 8 (drop 8 bytes)) (dues_of bytes) (events_of bytes) (ids_of bytes)
    parts = parts_of_lem bytes size

    timer_is : (i : ℕ) → i < n → get_or ss i no_timer ≡ timer_at bytes i
    timer_is i l = timer_read bytes i l

    due_cells : dues_of bytes ≡ cells due_bytes 8 32 ss
    unfolding dues_fit due_bytes timer_at
    due_cells =
        let few = j.few in
        cells_known due_bytes 8 due_size_lem (dues_of bytes) ss n refl j.few parts.due_size (and_left (all (eqb 0) (drop (n * 8) (dues_of bytes))) _ j.dues)
        (λ i l. sym (due_cell bytes _ _ _ _ _ parts i (omega arith)) ∙ sym (number_back bytes (16 + i * 8) small (omega arith)) ∙ sym (ap due_bytes (timer_is i l)))

    slot_size_lem : (a i : ℕ) → a + 2048 ≤ 4368 → i < 32 → length (slot_at (take 2048 (drop a bytes)) i) ≡ 64
    unfolding slot_at
    slot_size_lem a i l h =
        length-take-le 64 (drop (i * 64) (take 2048 (drop a bytes))) (omega (arith, length-drop (i * 64) (take 2048 (drop a bytes)), length-take-le 2048 (drop a bytes) (omega (arith, length-drop a bytes))))

    slot_good : (blanks : Bool) (slots : List ℕ) → slots_fit blanks slots n ≡ true → (i : ℕ) → i < n → slot_fits blanks (slot_at slots i) ≡ true
    unfolding slots_fit slot_fits_at
    slot_good blanks slots h i l = each_below (slot_fits_at blanks slots) n (and_right (all (eqb 0) (drop (n * 64) slots)) _ h) i l

    event_cells : events_of bytes ≡ cells event_slot 64 32 ss
    unfolding slots_fit event_slot timer_at name_at slot_at
    event_cells =
        let few = j.few in
        cells_known event_slot 64 event_size (events_of bytes) ss n refl j.few parts.events_size (and_left (all (eqb 0) (drop (n * 64) (events_of bytes))) _ j.events)
        (λ i l. sym (fits_again false (slot_at (events_of bytes) i) (slot_size_lem 272 i (omega arith) (omega arith)) (slot_good false (events_of bytes) j.events i l)) ∙
        ap slot_of (sym (event_name bytes _ _ _ _ _ parts i (omega arith))) ∙ sym (ap event_slot (timer_is i l)))

    id_cells : ids_of bytes ≡ cells id_slot 64 32 ss
    unfolding slots_fit id_slot timer_at name_at slot_at
    id_cells =
        let few = j.few in
        cells_known id_slot 64 id_size (ids_of bytes) ss n refl j.few parts.ids_size (and_left (all (eqb 0) (drop (n * 64) (ids_of bytes))) _ j.ids)
        (λ i l. sym (fits_again true (slot_at (ids_of bytes) i) (slot_size_lem 2320 i (omega arith) (omega arith)) (slot_good true (ids_of bytes) j.ids i l)) ∙
        ap slot_of (sym (id_name bytes _ _ _ _ _ parts i (omega arith))) ∙ sym (ap id_slot (timer_is i l)))

    spelled : bytes ≡ clock_bytes (clock_in bytes)
    spelled =
        parts_spell bytes _ _ _ _ _ ticks ss parts
        (sym (number_back bytes 0 small (omega arith)) ∙ ap bytes_of (sym (ticks_read bytes)))
        (sym (number_back bytes 8 small (omega arith)) ∙ ap bytes_of (sym (count_read bytes)))
        due_cells event_cells id_cells

    timer_good : (i : ℕ) → i < n → timer_fits ticks (timer_at bytes i) ≡ true
    unfolding timer_fits dues_fit due_fits timer_at
    timer_good i l =
        let few = j.few in
        let d : leb (number_at (dues_of bytes) (i * 8)) (ticks + most_delay) ≡ true = each_below (due_fits (dues_of bytes) (ticks + most_delay)) n (and_right (all (eqb 0) (drop (n * 8) (dues_of bytes))) _ j.dues) i l in
        let e : number_at bytes (16 + i * 8) ≡ number_at (dues_of bytes) (i * 8) = due_number bytes _ _ _ _ _ parts i (omega arith) ∙ number_part (dues_of bytes) (i * 8) in
        and_true _ _
        (and_true _ _ (ap (λ (x : ℕ). leb x (ticks + most_delay)) e ∙ d)
        (ap is_name (event_name bytes _ _ _ _ _ parts i (omega arith)) ∙ (unfold name_at in fits_named (slot_at (events_of bytes) i) (slot_good false (events_of bytes) j.events i l))))
        (ap (λ (x : Name). is_empty x || is_name x) (id_name bytes _ _ _ _ _ parts i (omega arith)) ∙ (unfold name_at in fits_named_or_blank (slot_at (ids_of bytes) i) (slot_size_lem 2320 i (omega arith) (omega arith)) (slot_good true (ids_of bytes) j.ids i l)))

    all_good : all (timer_fits ticks) ss ≡ true
    all_good = each_timer ticks ss (λ i l. ap (timer_fits ticks) (timer_is i l) ∙ timer_good i l)

    whole_fits : clock_fits m (clock_in bytes) ≡ true
    unfolding clock_fits
    whole_fits =
        and_true _ _
        (and_true _ _ (and_true _ _ (le-leb ticks most_ticks j.ticks_fit) (le-leb n most_pending j.few)) all_good)
        (ap (λ (b : Bool). not (is_ended m) || b) (empty_count ss) ∙ j.ended)

    pub judged_clock : is_clock m bytes ≡ true
    judged_clock = holds_is_clock m bytes (record { spells = spelled; fits = whole_fits })

  -- ---- and what a record that holds passes

  module _ (h : ClockHolds m bytes) where
    abbrev held : List Timer
    held = (clock_in bytes).pending

    cut : Parts bytes (bytes_of ticks) (bytes_of (length held)) (cells due_bytes 8 32 held) (cells event_slot 64 32 held) (cells id_slot 64 32 held)
    cut = clock_parts (clock_in bytes) bytes h.spells

    few_held : n ≤ 32
    few_held = fits_few m (clock_in bytes) h.fits

    fit_held : (i : ℕ) → i < n →
        (leb (timer_at bytes i).due (ticks + most_delay) ≡ true) × (is_name (timer_at bytes i).event ≡ true) × ((is_empty (timer_at bytes i).id || is_name (timer_at bytes i).id) ≡ true)
    unfolding timer_fits
    fit_held i l = and3 _ _ _ (ap (timer_fits ticks) (sym (timer_read bytes i l)) ∙ all_at (timer_fits ticks) held no_timer (fits_timers m (clock_in bytes) h.fits) i l)

    ended_held : (not (is_ended m) || eqb n 0) ≡ true
    ended_held = ap (λ (b : Bool). not (is_ended m) || b) (sym (empty_count held)) ∙ fits_ended m (clock_in bytes) h.fits

    dues_held : dues_fit (dues_of bytes) n (ticks + most_delay) ≡ true
    unfolding dues_fit due_fits timer_at
    dues_held =
        let few = few_held in
        let e = due_part bytes _ _ _ _ _ cut in
        and_true (all (eqb 0) (drop (n * 8) (dues_of bytes))) _ (cells_zeros due_bytes 8 due_size_lem (dues_of bytes) held n refl few_held e)
        (below_each (due_fits (dues_of bytes) (ticks + most_delay)) n
        (λ i l. let q : number_at (dues_of bytes) (i * 8) ≡ number_at bytes (16 + i * 8) = sym (number_part (dues_of bytes) (i * 8)) ∙ ap (λ (x : List ℕ). number_at (take 8 (drop (i * 8) x)) 0) e ∙ sym (due_number bytes _ _ _ _ _ cut i (omega arith)) in
        ap (λ (x : ℕ). leb x (ticks + most_delay)) q ∙ (fit_held i l).0))

    slot_held : (blanks : Bool) (f : Timer → List ℕ) (size : (x : Timer) → length (f x) ≡ 64) (slots : List ℕ) → slots ≡ cells f 64 32 held →
        ((i : ℕ) → i < n → slot_fits blanks (f (timer_at bytes i)) ≡ true) → slots_fit blanks slots n ≡ true
    unfolding slots_fit slot_fits_at slot_at
    slot_held blanks f size slots e g =
        let few = few_held in
        and_true (all (eqb 0) (drop (n * 64) slots)) _ (cells_zeros f 64 size slots held n refl few_held e)
        (below_each (slot_fits_at blanks slots) n
        (λ i l. ap (λ (x : List ℕ). slot_fits blanks (take 64 (drop (i * 64) x))) e ∙ ap (slot_fits blanks) (cell_in f 64 size 32 i held no_timer (omega arith) l ∙ ap f (timer_read bytes i l)) ∙ g i l))

    events_held : slots_fit false (events_of bytes) n ≡ true
    unfolding event_slot
    events_held = slot_held false event_slot event_size (events_of bytes) (events_part bytes _ _ _ _ _ cut) (λ i l. name_fits false (timer_at bytes i).event (fit_held i l).1)

    ids_held : slots_fit true (ids_of bytes) n ≡ true
    unfolding id_slot
    ids_held = slot_held true id_slot id_size (ids_of bytes) (ids_part bytes _ _ _ _ _ cut) (λ i l. id_fits_lem (timer_at bytes i).id (fit_held i l).2)

    pub holds_judged : Judged
    holds_judged = record { few = few_held; ticks_fit = fits_ticks m (clock_in bytes) h.fits; ended = ended_held; dues = dues_held; events = events_held; ids = ids_held }

  -- ---- what each way out says

  refuted : (ClockHolds m bytes → ⊥) → false ≡ is_clock m bytes
  refuted f = sym (not_so (is_clock m bytes) (λ e. f (is_clock_holds m bytes e)))

  pub wrong_size : (length bytes ≡ 4368 → ⊥) → false ≡ is_clock m bytes
  wrong_size f = refuted (λ h. f (holds_length m bytes h))

  pub too_many : (k : ℕ) → k ≡ n → 32 < k → false ≡ is_clock m bytes
  too_many k e l = refuted (λ h. let few = (holds_judged h).few in omega arith)

  pub too_late : (t : ℕ) → t ≡ ticks → most_ticks < t → false ≡ is_clock m bytes
  too_late t e l = refuted (λ h. let few = (holds_judged h).ticks_fit in omega arith)

  pub pends_ended : (k : ℕ) (b : Bool) → k ≡ n → b ≡ (not (is_ended m) || eqb k 0) → not b ≡ true → false ≡ is_clock m bytes
  pends_ended k b e q t = refuted (λ h. clash b (q ∙ ap (λ (x : ℕ). not (is_ended m) || eqb x 0) e ∙ (holds_judged h).ended) (not-true b t))

  pub dues_wrong : (k t : ℕ) (b : Bool) → k ≡ n → t ≡ ticks → b ≡ dues_fit (dues_of bytes) k (t + most_delay) → not b ≡ true → false ≡ is_clock m bytes
  dues_wrong k t b e f q u = refuted (λ h. clash b (q ∙ rw (e, f) (holds_judged h).dues) (not-true b u))

  pub events_wrong : (k : ℕ) (b : Bool) → k ≡ n → b ≡ slots_fit false (events_of bytes) k → not b ≡ true → false ≡ is_clock m bytes
  events_wrong k b e q u = refuted (λ h. clash b (q ∙ rw e (holds_judged h).events) (not-true b u))

  pub ids_said : ((k : ℕ) → get_or bytes k 0 < 256) → length bytes ≡ 4368 → (k t : ℕ) (b₁ b₂ b₃ b : Bool) → k ≡ n → t ≡ ticks → k ≤ 32 → t ≤ most_ticks →
      b₁ ≡ (not (is_ended m) || eqb k 0) → not b₁ ≡ false → b₂ ≡ dues_fit (dues_of bytes) k (t + most_delay) → not b₂ ≡ false → b₃ ≡ slots_fit false (events_of bytes) k → not b₃ ≡ false →
      b ≡ slots_fit true (ids_of bytes) k → b ≡ is_clock m bytes
  ids_said small size k t b₁ b₂ b₃ b e f l u p₁ q₁ p₂ q₂ p₃ q₃ p =
      both_ways b (is_clock m bytes)
      (λ y. judged_clock small size
      (record {
        few = rw e at l;
        ticks_fit = rw f at u;
        ended = ap (λ (x : ℕ). not (is_ended m) || eqb x 0) (sym e) ∙ sym p₁ ∙ not-false b₁ q₁;
        dues = rw (← e, ← f) (sym p₂ ∙ not-false b₂ q₂);
        events = rw (← e) (sym p₃ ∙ not-false b₃ q₃);
        ids = rw (← e) (sym p ∙ y);
      }))
      (λ y. p ∙ rw e (holds_judged (is_clock_holds m bytes y)).ids)
