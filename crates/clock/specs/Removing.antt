-- The send at a place leaves, part by part.
use Rattle.std.specs.Prelude.{◌≡◌, refl, List, ◌++◌, ℕ, ◌+◌, ◌-◌, ◌*◌, ◌≤◌, ◌<◌, length, take, drop, replicate}
use Rattle.std.proofs.Common.{ap, ◌∙◌, arith, length-drop, drop-drop}
use Rattle.definition.specs.declared.Mode.TheVariants.{Running}
use Rattle.follower.specs.Clock.{Timer, without_at}
use Rattle.laws.specs.Cells.{cells, cells_length}
use Rattle.clock.specs.Records.{bytes_of, due_bytes, event_slot, id_slot, clock_in, ClockHolds}
use Rattle.clock.specs.Numbers.{bytes_length}
use Rattle.clock.specs.Parts.{Parts, dues_of, events_of, ids_of, due_part, events_part, ids_part}
use Rattle.clock.specs.Spelled.{clock_parts, due_size_lem, event_size, id_size, fits_ticks, fits_few, holds_length}
use Rattle.clock.specs.Tabled.{pending_fits, remove_pending, length_removed}
use Rattle.clock.specs.Left.{Left, parts_spell, holds_pending}
use Rattle.clock.specs.Closing.{closed, Behind, cells_closed, cells_behind}
use Rattle.clock.specs.Putting.{Put, dues_put, events_put, ids_put, count_put}

-- the slots in use, and zeros behind them
slots_behind : (f : Timer → List ℕ) → ((x : Timer) → length (f x) ≡ 64) → (part : List ℕ) (ss : List Timer) (i n : ℕ) → part ≡ cells f 64 32 ss → n ≡ length ss → n ≤ 32 → i < n → Behind part i n
slots_behind f size part ss i n e m few l =
    let s : length part ≡ 2048 = ap length e ∙ cells_length f 64 size 32 ss in
    let d = length-drop (i * 64) part in
    let k : i * 64 + (n - i) * 64 ≡ length ss * 64 = omega arith in
    let z : length (drop (i * 64) part) - (n - i) * 64 ≡ 2048 - length ss * 64 = omega arith in
    let b : drop (length ss * 64) part ≡ replicate (2048 - length ss * 64) 0 = ap (drop (length ss * 64)) e ∙ cells_behind f 64 size 32 ss (omega arith) in
    record {
      low = l;
      inside = omega arith;
      waits = record { some = omega arith; inside = omega arith; behind = rw (z, drop-drop ((n - i) * 64) (i * 64) part, k) b };
    }

closed_cells : (f : Timer → List ℕ) (w : ℕ) → ((x : Timer) → length (f x) ≡ w) → (part : List ℕ) (ss : List Timer) (i : ℕ) → part ≡ cells f w 32 ss → i < length ss → length ss ≤ 32 → closed w part i ≡ cells f w 32 (without_at i ss)
closed_cells f w size part ss i e l few = rw e (cells_closed f w size 32 i ss l few)

module _ (old : List ℕ) (h : ClockHolds Running old) (i : ℕ) (l : i < length (clock_in old).pending) (n : ℕ) (e : n ≡ length (clock_in old).pending) where
  abbrev ss : List Timer
  ss = (clock_in old).pending

  abbrev less : List Timer
  less = without_at i ss

  abbrev ticks : List ℕ
  ticks = bytes_of (clock_in old).ticks

  abbrev count : List ℕ
  count = bytes_of (length ss)

  few : length ss ≤ 32
  few = fits_few Running (clock_in old) h.fits

  pub remove_needs : (length old ≡ 4368) × (i < 32)
  remove_needs = let f = few in (holds_length Running old h, omega arith)

  parts₀ : Parts old ticks count (cells due_bytes 8 32 ss) (cells event_slot 64 32 ss) (cells id_slot 64 32 ss)
  parts₀ = clock_parts (clock_in old) old h.spells

  module _ (b₁ : List ℕ) (p₁ : Put 16 256 old b₁ (closed 8 (dues_of old) i)) where
    parts₁ : Parts b₁ ticks count (cells due_bytes 8 32 less) (cells event_slot 64 32 ss) (cells id_slot 64 32 ss)
    parts₁ =
        let q = closed_cells due_bytes 8 due_size_lem (dues_of old) ss i (due_part old _ _ _ _ _ parts₀) l few in
        dues_put old b₁ _ _ _ _ _ _ parts₀ (rw q at p₁) (cells_length due_bytes 8 due_size_lem 32 less)

    pub events_behind : (length b₁ ≡ 4368) × Behind (events_of b₁) i n
    events_behind = let f = few in (p₁.size, slots_behind event_slot event_size (events_of b₁) ss i n (events_part b₁ _ _ _ _ _ parts₁) e (omega arith) (omega arith))

    module _ (b₂ : List ℕ) (p₂ : Put 272 2048 b₁ b₂ (closed 64 (events_of b₁) i)) where
      parts₂ : Parts b₂ ticks count (cells due_bytes 8 32 less) (cells event_slot 64 32 less) (cells id_slot 64 32 ss)
      parts₂ =
          let q = closed_cells event_slot 64 event_size (events_of b₁) ss i (events_part b₁ _ _ _ _ _ parts₁) l few in
          events_put b₁ b₂ _ _ _ _ _ _ parts₁ (rw q at p₂) (cells_length event_slot 64 event_size 32 less)

      pub ids_behind : (length b₂ ≡ 4368) × Behind (ids_of b₂) i n
      ids_behind = let f = few in (p₂.size, slots_behind id_slot id_size (ids_of b₂) ss i n (ids_part b₂ _ _ _ _ _ parts₂) e (omega arith) (omega arith))

      pub remove_done : (b₃ new : List ℕ) → Put 2320 2048 b₂ b₃ (closed 64 (ids_of b₂) i) → new ≡ take 8 b₃ ++ (bytes_of (n - 1) ++ drop 8 (drop 8 b₃)) → Left old new less
      remove_done b₃ new p₃ p₄ =
          let q = closed_cells id_slot 64 id_size (ids_of b₂) ss i (ids_part b₂ _ _ _ _ _ parts₂) l few in
          let parts₃ : Parts b₃ ticks count (cells due_bytes 8 32 less) (cells event_slot 64 32 less) (cells id_slot 64 32 less) =
          ids_put b₂ b₃ _ _ _ _ _ _ parts₂ (rw q at p₃) (cells_length id_slot 64 id_size 32 less) in
          let parts₄ : Parts new ticks (bytes_of (n - 1)) (cells due_bytes 8 32 less) (cells event_slot 64 32 less) (cells id_slot 64 32 less) =
          count_put b₃ new _ _ _ _ _ _ parts₃ p₄ (bytes_length (n - 1)) in
          record {
            spells = parts_spell new _ _ _ _ _ (clock_in old).ticks less parts₄ refl (ap bytes_of (omega (arith, length_removed i ss l))) refl refl refl;
            fits = pending_fits (clock_in old).ticks less (fits_ticks Running (clock_in old) h.fits) (remove_pending (clock_in old).ticks i ss (holds_pending old h) l);
          }
