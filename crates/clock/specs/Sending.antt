-- A send behind those that are pending, part by part.
use Rattle.std.specs.Prelude.{◌≡◌, refl, Bool, ◌||◌, List, [], ◌∷◌, ◌++◌, ℕ, ◌+◌, ◌≤◌, ◌<◌, length, take, drop}
use Rattle.std.proofs.Common.{ap, arith, Fits, length-append}
use Rattle.std.proofs.Math.Bool.{true, false}
use Rattle.std.specs.Int.{w64}
use Rattle.std.proofs.Math.Dec.{leb}
use borrow.Author.Tests.{le-leb, lt-leb}
use Rattle.definition.specs.declared.Mode.TheVariants.{Running}
use Rattle.definition.specs.Names.{Name, is_name}
use Rattle.definition.specs.Rows.{is_empty}
use Rattle.definition.specs.Tables.{slot_of, most_delay}
use Rattle.follower.specs.Clock.{Timer, Table, most_pending, with_send}
use Rattle.follower.specs.Legal.{timer_fits}
use Rattle.laws.specs.Bools.{and_true}
use Rattle.laws.specs.Cells.{cells, cells_length}
use Rattle.clock.specs.Records.{bytes_of, due_bytes, event_slot, id_slot, clock_in, ClockHolds}
use Rattle.clock.specs.Numbers.{bytes_length}
use Rattle.clock.specs.Parts.{Parts, dues_of, events_of, ids_of, due_part, events_part, ids_part}
use Rattle.clock.specs.Putting.{Put, cell_put, dues_put, events_put, ids_put, count_put, cell_more}
use Rattle.clock.specs.Spelled.{clock_parts, due_size_lem, event_size, id_size, fits_ticks}
use Rattle.clock.specs.Tabled.{pending_fits, send_pending}
use Rattle.clock.specs.Left.{Left, parts_spell, holds_pending}

abbrev pub table_in : List ℕ → Table
table_in bytes = record { pending = (clock_in bytes).pending; full = false }

abbrev pub timer_by : List ℕ → ℕ → Name → Name → Timer
timer_by bytes delay event id = record { due = (clock_in bytes).ticks + delay; event = event; id = id }

pub record Sent (old new : List ℕ) (delay : ℕ) (event id : Name) (b : Bool) : Type 0 where
  pub full : b ≡ (with_send (table_in old) (timer_by old delay event id)).full
  pub left : Left old new (with_send (table_in old) (timer_by old delay event id)).pending

module _ (old : List ℕ) (h : ClockHolds Running old) (delay : ℕ) (event id : Name) (n : ℕ) (e : n ≡ length (clock_in old).pending) where
  abbrev ss : List Timer
  ss = (clock_in old).pending

  abbrev s : Timer
  s = timer_by old delay event id

  pub send_full : 32 ≤ n → Sent old old delay event id true
  unfolding with_send
  send_full l =
      let f : leb most_pending (length ss) ≡ true = le-leb 32 (length ss) (omega arith) in
      record { full = rw f; left = rw f (record { spells = h.spells; fits = h.fits }) }

  module _ (l : n < 32) (few : delay ≤ most_delay) (named : is_name event ≡ true) (id_named : (is_empty id || is_name id) ≡ true)
      (b₁ b₂ b₃ new : List ℕ) (t : ℕ) (et : t ≡ (clock_in old).ticks)
      (p₁ : Put 16 256 old b₁ (cell_put 8 (dues_of old) n (bytes_of (t + delay))))
      (p₂ : Put 272 2048 b₁ b₂ (cell_put 64 (events_of b₁) n (slot_of event)))
      (p₃ : Put 2320 2048 b₂ b₃ (cell_put 64 (ids_of b₂) n (slot_of id)))
      (p₄ : new ≡ take 8 b₃ ++ (bytes_of (n + 1) ++ drop 8 (drop 8 b₃))) where
    abbrev more : List Timer
    more = ss ++ (s ∷ [])

    abbrev ticks : List ℕ
    ticks = bytes_of (clock_in old).ticks

    abbrev count : List ℕ
    count = bytes_of (length ss)

    parts₀ : Parts old ticks count (cells due_bytes 8 32 ss) (cells event_slot 64 32 ss) (cells id_slot 64 32 ss)
    parts₀ = clock_parts (clock_in old) old h.spells

    due_cells : cell_put 8 (dues_of old) n (bytes_of (t + delay)) ≡ cells due_bytes 8 32 more
    unfolding due_bytes
    due_cells = rw et (cell_more due_bytes 8 due_size_lem (dues_of old) n ss s (due_part old _ _ _ _ _ parts₀) e l)

    parts₁ : Parts b₁ ticks count (cells due_bytes 8 32 more) (cells event_slot 64 32 ss) (cells id_slot 64 32 ss)
    parts₁ = dues_put old b₁ _ _ _ _ _ _ parts₀ (rw due_cells at p₁) (cells_length due_bytes 8 due_size_lem 32 more)

    event_cells : cell_put 64 (events_of b₁) n (slot_of event) ≡ cells event_slot 64 32 more
    unfolding event_slot
    event_cells = cell_more event_slot 64 event_size (events_of b₁) n ss s (events_part b₁ _ _ _ _ _ parts₁) e l

    parts₂ : Parts b₂ ticks count (cells due_bytes 8 32 more) (cells event_slot 64 32 more) (cells id_slot 64 32 ss)
    parts₂ = events_put b₁ b₂ _ _ _ _ _ _ parts₁ (rw event_cells at p₂) (cells_length event_slot 64 event_size 32 more)

    id_cells : cell_put 64 (ids_of b₂) n (slot_of id) ≡ cells id_slot 64 32 more
    unfolding id_slot
    id_cells = cell_more id_slot 64 id_size (ids_of b₂) n ss s (ids_part b₂ _ _ _ _ _ parts₂) e l

    parts₃ : Parts b₃ ticks count (cells due_bytes 8 32 more) (cells event_slot 64 32 more) (cells id_slot 64 32 more)
    parts₃ = ids_put b₂ b₃ _ _ _ _ _ _ parts₂ (rw id_cells at p₃) (cells_length id_slot 64 id_size 32 more)

    parts₄ : Parts new ticks (bytes_of (n + 1)) (cells due_bytes 8 32 more) (cells event_slot 64 32 more) (cells id_slot 64 32 more)
    parts₄ = count_put b₃ new _ _ _ _ _ _ parts₃ p₄ (bytes_length (n + 1))

    timer_fits_lem : timer_fits (clock_in old).ticks s ≡ true
    unfolding timer_fits
    timer_fits_lem = and_true _ _ (and_true _ _ (le-leb ((clock_in old).ticks + delay) ((clock_in old).ticks + most_delay) (omega arith)) named) id_named

    left_more : Left old new more
    left_more =
        record {
          spells = parts_spell new _ _ _ _ _ (clock_in old).ticks more parts₄ refl (ap bytes_of (omega (arith, length-append ss (s ∷ [])))) refl refl refl;
          fits = pending_fits (clock_in old).ticks more (fits_ticks Running (clock_in old) h.fits) (send_pending (clock_in old).ticks ss s (holds_pending old h) (omega arith) timer_fits_lem);
        }

    pub send_done : Sent old new delay event id false
    unfolding with_send
    send_done =
        let f : leb most_pending (length ss) ≡ false = lt-leb 32 (length ss) (omega arith) in
        record { full = rw f; left = rw f left_more }

-- the due time fits its number
pub ticks_room : (old : List ℕ) → ClockHolds Running old → (t delay : ℕ) → t ≡ (clock_in old).ticks → delay ≤ most_delay → Fits w64 (t + delay)
ticks_room old h t delay e l = let m = fits_ticks Running (clock_in old) h.fits in record { fits = omega arith }
