-- The clock record in its lent place of 4,368 bytes (R-9): the last clock, how many sends are pending, 32 due times, each eight bytes of which the first is the lowest, then the slots of 32
-- events and of 32 send ids. Sends stand in order of sending from the first place on; a send without an id has a slot of zeros, and zeros stand behind the last send.
use Rattle.std.specs.Prelude.{◌≡◌, Bool, true, false, ◌&&◌, ◌||◌, List, [], ◌∷◌, ◌++◌, map, ℕ, ◌+◌, ◌-◌, ◌*◌, ◌/◌, ◌%◌, eqb, leb, length, get_or, drop}
use Rattle.definition.specs.declared.Mode.{Mode}
use Rattle.definition.specs.declared.Mode.TheVariants.{Running}
use Rattle.definition.specs.Rows.{from, same}
use Rattle.definition.specs.Names.{is_name}
use Rattle.definition.specs.Tables.{no_number, most_delay, name_at, slot_of}
use Rattle.follower.specs.Blocks.{Effect, exited, taken, entered, acted, raised, done, chosen, sent, cancelled}
use Rattle.follower.specs.Clock.{Timer, Clock, Table, table_after, Joining, join_due}
use Rattle.follower.specs.Legal.{clock_fits}
use Rattle.laws.specs.Cells.{cells}
use Rattle.queue.specs.Queues.{queue_bytes, queue_of}
use Rattle.paths.specs.Timing.{effects_in}

-- eight bytes, the lowest first
unfoldable pub bytes_of : ℕ → List ℕ
bytes_of n =
    (n % 256) ∷ (n / 256 % 256) ∷ (n / 65536 % 256) ∷ (n / 16777216 % 256) ∷ (n / 4294967296 % 256) ∷ (n / 1099511627776 % 256) ∷ (n / 281474976710656 % 256) ∷ (n / 72057594037927936 % 256) ∷ []

unfoldable pub number_at : List ℕ → ℕ → ℕ
number_at bytes i =
    get_or bytes i 0 + 256 * (get_or bytes (i + 1) 0 + 256 * (get_or bytes (i + 2) 0 + 256 * (get_or bytes (i + 3) 0 + 256 * (get_or bytes (i + 4) 0 + 256 * (get_or bytes (i + 5) 0 + 256 * (get_or bytes (i + 6) 0 + 256 * get_or bytes (i + 7) 0))))))

-- ---- from a record to its bytes, and back

unfoldable pub due_bytes : Timer → List ℕ
due_bytes s = bytes_of s.due

unfoldable pub event_slot : Timer → List ℕ
event_slot s = slot_of s.event

unfoldable pub id_slot : Timer → List ℕ
id_slot s = slot_of s.id

unfoldable pub clock_bytes : Clock → List ℕ
clock_bytes k =
    bytes_of k.ticks ++ (bytes_of (length k.pending) ++ (cells due_bytes 8 32 k.pending ++ (cells event_slot 64 32 k.pending ++ cells id_slot 64 32 k.pending)))

unfoldable pub timer_at : List ℕ → ℕ → Timer
timer_at bytes i = record { due = number_at bytes (16 + i * 8); event = name_at (drop 272 bytes) i; id = name_at (drop 2320 bytes) i }

unfoldable pub clock_in : List ℕ → Clock
clock_in bytes = record { ticks = number_at bytes 0; pending = map (timer_at bytes) (from (number_at bytes 8) 0) }

-- ---- "else 9 in runs and clock calls": the bytes are those of their record, and it is well formed beside a session of that mode

unfoldable pub is_clock : Mode → List ℕ → Bool
is_clock m bytes = same bytes (clock_bytes (clock_in bytes)) && clock_fits m (clock_in bytes)

-- the same as a fact
pub record ClockHolds (m : Mode) (bytes : List ℕ) : Type 0 where
  pub spells : bytes ≡ clock_bytes (clock_in bytes)
  pub fits : clock_fits m (clock_in bytes) ≡ true

-- ---- sends and cancels that a round has noted

-- the names that it speaks of stand in their slots
unfoldable pub is_slot : List ℕ → ℕ → Bool
is_slot names n = leb (n * 64 + 64) (length names) && is_name (name_at names n)

unfoldable pub timer_known : List ℕ → Effect → Bool
timer_known names (exited i) = true
timer_known names (taken t) = true
timer_known names (entered i) = true
timer_known names (acted n) = true
timer_known names (raised n) = true
timer_known names (done i) = true
timer_known names (chosen i) = true
timer_known names (sent n delay id) = is_slot names n && leb delay most_delay && (eqb id no_number || is_slot names id)
timer_known names (cancelled n) = is_slot names n

-- the table that they leave of the record in these bytes
abbrev pub table_by : List ℕ → List ℕ → List ℕ → Table
table_by names timers bytes =
    table_after (name_at names) (clock_in bytes).ticks (record { pending = (clock_in bytes).pending; full = false }) (effects_in timers)

pub record Applied (names timers old new : List ℕ) (b : Bool) : Type 0 where
  pub full : b ≡ (table_by names timers old).full
  pub left : b ≡ false → new ≡ clock_bytes (record { ticks = (clock_in old).ticks; pending = (table_by names timers old).pending })
  pub read : b ≡ false → clock_in new ≡ record { ticks = (clock_in old).ticks; pending = (table_by names timers old).pending }
  pub holds : b ≡ false → ClockHolds Running new
  pub size : length new ≡ length old

-- ---- what is due has joined the external queue, in which so many names waited

abbrev pub due_by : List ℕ → ℕ → ℕ → Joining
due_by bytes waiting ticks = join_due (32 - waiting) ticks (clock_in bytes).pending

pub record JoinedDue (old new queue queue_now : List ℕ) (waiting ticks n : ℕ) : Type 0 where
  pub clock : new ≡ clock_bytes (record { ticks = ticks; pending = (due_by old waiting ticks).left })
  pub external : queue_now ≡ queue_bytes (queue_of queue waiting ++ (due_by old waiting ticks).names)
  pub waits : n ≡ length (queue_of queue waiting ++ (due_by old waiting ticks).names)

-- the record with nothing pending
unfoldable pub emptied_bytes : List ℕ → List ℕ
emptied_bytes bytes = clock_bytes (record { ticks = (clock_in bytes).ticks; pending = [] })
