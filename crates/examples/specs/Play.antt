-- What the definitions give for a chart and a list of calls, as lists of numbers that a theorem can compare.
use Rattle.std.specs.Prelude.{Bool, true, false, ◌&&◌, cond, List, [], ◌∷◌, ◌++◌, ℕ, zero, suc, eqb, length, drop}
use Rattle.definition.specs.Rows.{same, flat}
use Rattle.definition.specs.Names.{Name}
use Rattle.definition.specs.Tables.{chart_of, name_at}
use Rattle.definition.specs.Rules.{counts_fit, verdict, keeps_rules}
use Rattle.definition.specs.Answers.{answer_no, mode_no}
use Rattle.definition.specs.declared.Mode.{Mode}
use Rattle.follower.specs.Clock.{Timer, Clock}
use Rattle.follower.specs.Follower.{Follower}
use Rattle.follower.specs.Calls.{Call, Outcome, follow_all, at_rest}
use Rattle.follower.specs.Legal.{is_well_formed, clock_fits}
use Rattle.definition.specs.Compiled.{compiled, is_compiled}

-- slots one after the other
unfoldable pub joined : List (List ℕ) → List ℕ
joined [] = []
joined (x ∷ xs) = x ++ joined xs

-- for each row with something stored: its number, how many rows, the rows
unfoldable pub history_shown : ℕ → List (List ℕ) → List ℕ
history_shown h [] = []
history_shown h ([] ∷ sets) = history_shown (suc h) sets
history_shown h ((x ∷ xs) ∷ sets) = h ∷ length (x ∷ xs) ∷ ((x ∷ xs) ++ history_shown (suc h) sets)

-- for each name: how many bytes, the bytes
unfoldable pub queue_shown : List Name → List ℕ
queue_shown [] = []
queue_shown (n ∷ ns) = length n ∷ (n ++ queue_shown ns)

-- for each pending send: its due time, its event, its id; no id has no bytes
unfoldable pub pending_shown : List Timer → List ℕ
pending_shown [] = []
pending_shown (t ∷ ts) = t.due ∷ (length t.event ∷ (t.event ++ (length t.id ∷ (t.id ++ pending_shown ts))))

unfoldable pub shown : Outcome → List (List ℕ)
shown o =
    (o.number ∷ o.rounds ∷ []) ∷ o.trace ∷ o.after.follower.configuration ∷ history_shown 0 o.after.follower.history ∷
    queue_shown o.after.follower.internal ∷ queue_shown o.after.follower.external ∷ (mode_no o.after.follower.mode ∷ []) ∷
    (o.after.clock.ticks ∷ pending_shown o.after.clock.pending) ∷ []

-- a refused chart is not played
unfoldable pub played_if : ℕ → List ℕ → List ℕ → List Call → List (List ℕ)
played_if zero numbers names calls = flat shown (follow_all (chart_of numbers) (name_at names) (at_rest (chart_of numbers)) calls)
played_if (suc n) numbers names calls = []

-- the verdict, then eight lists for each call
unfoldable pub played : List ℕ → List ℕ → List Call → List (List ℕ)
played numbers names calls =
    (answer_no (keeps_rules numbers names) ∷ []) ∷ played_if (answer_no (keeps_rules numbers names)) numbers names calls

-- the number that compiling gives with places of so many numbers and bytes
unfoldable pub judged : List ℕ → List ℕ → ℕ → ℕ → ℕ
judged numbers names room names_room = answer_no (verdict numbers names room names_room)

-- are the counts of this header within their limits
unfoldable pub counts_kept : List ℕ → Bool
counts_kept header = counts_fit header

-- the words behind the numbers of the compiled chart
unfoldable pub compiled_sets : List ℕ → List ℕ
compiled_sets numbers = drop (length numbers) (compiled numbers)

-- do the two places hold a compiled chart; if not, refusal 8 is given
unfoldable pub opens : List ℕ → List ℕ → Bool
opens place names = is_compiled place names

-- is this a well-formed session of the chart
unfoldable pub fits : List ℕ → Follower → Bool
fits numbers s = is_well_formed (chart_of numbers) s

-- a send that is pending, by when it is due, its event and its send id
abbrev pub timer : ℕ → Name → Name → Timer
timer due event id = record { due = due; event = event; id = id }

-- is this a well-formed clock record of a session in that mode: the last clock, and what is pending
unfoldable pub record_fits : Mode → ℕ → List Timer → Bool
record_fits mode ticks pending = clock_fits mode (record { ticks = ticks; pending = pending })

unfoldable pub alike : List (List ℕ) → List (List ℕ) → Bool
alike [] [] = true
alike [] (y ∷ ys) = false
alike (x ∷ xs) [] = false
alike (x ∷ xs) (y ∷ ys) = same x y && alike xs ys
