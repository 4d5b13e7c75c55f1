-- The record with other sends pending, its clock as it was: what the bytes have to be part by part, and what they spell then.
use Rattle.std.specs.Prelude.{◌≡◌, refl, true, List, ◌++◌, ℕ, length, take, drop, replicate}
use Rattle.std.proofs.Common.{ap, ◌∙◌}
use Rattle.definition.specs.declared.Mode.TheVariants.{Running}
use Rattle.follower.specs.Clock.{Timer, Clock}
use Rattle.follower.specs.Legal.{clock_fits}
use Rattle.laws.specs.Cells.{cells, cells_none}
use Rattle.laws.specs.Maps.{map_length}
use Rattle.clock.specs.Records.{bytes_of, number_at, due_bytes, event_slot, id_slot, clock_bytes, timer_at, clock_in, emptied_bytes, ClockHolds}
use Rattle.clock.specs.Numbers.{bytes_zero}
use Rattle.clock.specs.Parts.{Parts}
use Rattle.clock.specs.Spelled.{read_again, bytes_hold, fits_few, fits_timers}
use Rattle.clock.specs.Tabled.{Pending}

abbrev pub leaving : List ℕ → List Timer → Clock
leaving bytes ss = record { ticks = (clock_in bytes).ticks; pending = ss }

pub record Left (old new : List ℕ) (ss : List Timer) : Type 0 where
  pub spells : new ≡ clock_bytes (leaving old ss)
  pub fits : clock_fits Running (leaving old ss) ≡ true

module _ (old new : List ℕ) (ss : List Timer) (h : Left old new ss) where
  pub left_record : clock_in new ≡ leaving old ss
  left_record = read_again Running (leaving old ss) h.fits new h.spells

  pub left_ticks : (clock_in new).ticks ≡ (clock_in old).ticks
  left_ticks = ap (λ (k : Clock). k.ticks) left_record

  pub left_pending : (clock_in new).pending ≡ ss
  left_pending = ap (λ (k : Clock). k.pending) left_record

  pub left_holds : ClockHolds Running new
  left_holds = bytes_hold Running (leaving old ss) h.fits new h.spells

-- ---- the count and the clock, as they are read

pub ticks_read : (bytes : List ℕ) → (clock_in bytes).ticks ≡ number_at bytes 0
unfolding clock_in
ticks_read bytes = refl

pub count_read : (bytes : List ℕ) → length (clock_in bytes).pending ≡ number_at bytes 8
unfolding clock_in
count_read bytes = map_length (timer_at bytes) (number_at bytes 8) 0

-- ---- a record of these parts

pub parts_spell : (bytes a b c d e : List ℕ) (t : ℕ) (ss : List Timer) → Parts bytes a b c d e →
    a ≡ bytes_of t → b ≡ bytes_of (length ss) → c ≡ cells due_bytes 8 32 ss → d ≡ cells event_slot 64 32 ss → e ≡ cells id_slot 64 32 ss → bytes ≡ clock_bytes (record { ticks = t; pending = ss })
unfolding clock_bytes
parts_spell bytes a b c d e t ss p ea eb ec ed ee = p.spells ∙ (λ j. ea j ++ (eb j ++ (ec j ++ (ed j ++ ee j))))

-- what is pending in a record that holds
pub holds_pending : (bytes : List ℕ) → ClockHolds Running bytes → Pending (clock_in bytes).ticks (clock_in bytes).pending
holds_pending bytes h = record { few = fits_few Running (clock_in bytes) h.fits; timers = fits_timers Running (clock_in bytes) h.fits }

-- ---- nothing pending

pub emptied_spells : (old zeros new : List ℕ) (t : ℕ) → length old ≡ 4368 → t ≡ (clock_in old).ticks → zeros ≡ replicate (length old) 0 → new ≡ take 0 zeros ++ (bytes_of t ++ drop 8 (drop 0 zeros)) → new ≡ emptied_bytes old
unfolding emptied_bytes clock_bytes
emptied_spells old zeros new t n e z h =
    let b : zeros ≡ replicate 4368 0 = z ∙ ap (λ (k : ℕ). replicate k 0) n in
    h ∙ rw (b, e, bytes_zero, cells_none due_bytes 8 32, cells_none event_slot 64 32, cells_none id_slot 64 32)
