-- The clock record (R-9): the last clock and the sends that are pending, in order of sending.
use Rattle.std.specs.Prelude.{Bool, true, false, cond, List, [], ◌∷◌, ◌++◌, ℕ, zero, suc, ◌+◌, eqb, leb, ltb, length}
use Rattle.definition.specs.Rows.{same}
use Rattle.definition.specs.Names.{Name}
use Rattle.definition.specs.Chart.{Names}
use Rattle.definition.specs.Tables.{no_number}
use Rattle.follower.specs.Blocks.{Effect, exited, taken, entered, acted, raised, done, chosen, sent, cancelled}

-- a send that is pending: when it is due, its event and its send id, empty where it has none
pub record Timer : Type 0 where
  pub due : ℕ
  pub event : Name
  pub id : Name

-- the last clock, and the sends in order of sending
pub record Clock : Type 0 where
  pub ticks : ℕ
  pub pending : List Timer

-- "At most 32 are pending.", "ticks up to 2^62"
abbrev pub most_pending : ℕ
most_pending = 32

abbrev pub most_ticks : ℕ
most_ticks = 4611686018427387904

-- "first sets it to 0 and drops whatever was pending"
abbrev pub new_clock : Clock
new_clock = record { ticks = 0; pending = [] }

-- ---- the table while the effects of a round come one by one; full once a send has found no place

pub record Table : Type 0 where
  pub pending : List Timer
  pub full : Bool

abbrev pub emptied : Table
emptied = record { pending = []; full = false }

-- the send id of a send, empty where it has none
unfoldable pub id_of : Names → ℕ → Name
id_of names id = cond (eqb id no_number) [] (names id)

-- "A send is due at the last clock plus its delay."
unfoldable pub send_of : Names → ℕ → ℕ → ℕ → ℕ → Timer
send_of names ticks n delay id = record { due = ticks + delay; event = names n; id = id_of names id }

-- a send behind the others; where 32 are pending it finds no place
unfoldable pub with_send : Table → Timer → Table
with_send t s =
    cond (leb most_pending (length t.pending)) (record { pending = t.pending; full = true }) (record { pending = t.pending ++ (s ∷ []); full = t.full })

-- "Cancel takes every pending send of an equal id." A send without an id has none equal to a name.
unfoldable pub without : Name → List Timer → List Timer
without id [] = []
without id (s ∷ ss) = cond (same s.id id) (without id ss) (s ∷ without id ss)

-- one effect; only sends and cancels touch the table
unfoldable pub table_step : Names → ℕ → Table → Effect → Table
table_step names ticks t (exited i) = t
table_step names ticks t (taken i) = t
table_step names ticks t (entered i) = t
table_step names ticks t (acted n) = t
table_step names ticks t (raised n) = t
table_step names ticks t (done i) = t
table_step names ticks t (chosen i) = t
table_step names ticks t (sent n delay id) = with_send t (send_of names ticks n delay id)
table_step names ticks t (cancelled n) = record { pending = without (names n) t.pending; full = t.full }

-- the effects one by one, in their order
unfoldable pub table_after : Names → ℕ → Table → List Effect → Table
table_after names ticks t [] = t
table_after names ticks t (e ∷ es) = table_after names ticks (table_step names ticks t e) es

-- ---- what is due, "by due time, then by order of sending"

-- the least of the due times and m
unfoldable pub least_due : List Timer → ℕ → ℕ
least_due [] m = m
least_due (s ∷ ss) m = least_due ss (cond (ltb s.due m) s.due m)

-- the place of the first that is due at m
unfoldable pub place_at : ℕ → List Timer → ℕ
place_at m [] = 0
place_at m (s ∷ ss) = cond (eqb s.due m) 0 (suc (place_at m ss))

-- the place of the next to join: the earliest that are due, the first sent of these; past the end where none is due
unfoldable pub next_place : ℕ → List Timer → ℕ
next_place ticks ss = cond (leb (least_due ss (suc ticks)) ticks) (place_at (least_due ss (suc ticks)) ss) (length ss)

-- the event at a place
unfoldable pub event_at : ℕ → List Timer → Name
event_at i [] = []
event_at zero (s ∷ ss) = s.event
event_at (suc i) (s ∷ ss) = event_at i ss

-- what is pending without that place, in the same order
unfoldable pub without_at : ℕ → List Timer → List Timer
without_at i [] = []
without_at zero (s ∷ ss) = ss
without_at (suc i) (s ∷ ss) = s ∷ without_at i ss

-- the names that join, and what stays pending
pub record Joining : Type 0 where
  pub names : List Name
  pub left : List Timer

-- one name more, in front
unfoldable pub joining : Name → Joining → Joining
joining n j = record { names = n ∷ j.names; left = j.left }

-- at most so many join
unfoldable pub join_due : ℕ → ℕ → List Timer → Joining
join_due zero ticks ss = record { names = []; left = ss }
join_due (suc room) ticks ss =
    cond (ltb (next_place ticks ss) (length ss)) (joining (event_at (next_place ticks ss) ss) (join_due room ticks (without_at (next_place ticks ss) ss)))
    (record { names = []; left = ss })
